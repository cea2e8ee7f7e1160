-- `words::put_word` meets its contract: its store of four bytes is that of `put_word`. Assumes nothing.
use mathlib.Core.Path.{◌≡◌, sym, ap, ◌∙◌}
use native.Mathlib.Omega.{arith}
use Prim.Native.Nat.{◌*◌}
use Rattle.std.proofs.lemmas.Slice.{put_mid-paste}
use Rattle.words.specs.Words.{bytes_of}
use Rattle.words.proofs.Buffer.{put-eq, low_bytes}
use Rattle.words.proofs.put_word.Goals as goal

pub returns : goal.returns
returns c =
    let a = c.args in
    let bytes : c.copy_from_slice.new.self ≡ bytes_of a.w =
    c.copy_from_slice.ensures.after ∙ c.to_le_bytes.ensures ∙ low_bytes _ (omega arith) ∙ ap bytes_of (omega arith) in
    put_mid-paste (4 * a.k) _ a.out.now c.copy_from_slice.new.self (bytes_of a.w) 4 bytes (omega arith) (omega arith)
    ∙ sym (put-eq a.out.now (4 * a.k) a.w c.requires)
