-- `text::put::Writer::text` meets its contract: a copy is a run of stores. Assumes nothing.
use mathlib.Core.Path.{◌≡◌, refl, sym, ap, ◌∙◌}
use Prim.Native.Nat.{◌+◌, ◌-◌}
use native.Mathlib.Omega.{arith}
use borrow.Rule.Slice.PartMut.{put_mid}
use lib.ListN.{length}
use lib.Seq.{sets, sets-eq, length-sets, take-length}
use Rattle.std.proofs.lemmas.Slice.{put_mid-paste}
use Rattle.text.proofs.put.Writer.text.Goals as goal

pub returns : goal.returns
returns c =
    let w = c.args.self.now in
    let text = c.args.text.now in
    let n : length text ≡ (w.at + length text) - w.at = omega arith in
    let bytes : put_mid w.at ((w.at + length text) - w.at) w.out.now c.copy_from_slice.new.self ≡ sets w.out.now w.at text =
    put_mid-paste _ _ _ _ text (length text) c.copy_from_slice.ensures.after n refl
    ∙ rw (take-length text) (sym (sets-eq text w.out.now w.at c.requires)) in
    record { same = refl; long = ap length bytes ∙ length-sets w.out.now w.at text; at = refl; bytes = bytes }
