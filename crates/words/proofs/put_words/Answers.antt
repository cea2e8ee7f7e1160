use mathlib.Core.Path.{◌≡◌, ap, ◌∙◌}
use mathlib.Core.List.{List}
use Prim.Native.Nat.{ℕ, ◌+◌, ◌*◌, ◌<◌}
use native.Mathlib.Omega.{arith}
use lib.ListN.{length, get_or, take, length-take}
use lib.Seq.{sets, take_all}
use Rattle.words.specs.Words.{encode, put_word}
use Rattle.words.proofs.Words.{encode_more}
use Rattle.words.proofs.Buffer.{put_behind}
use Rattle.words.proofs.put_words.Goals as goal

pub loop-i-init : goal.loop-i-init
unfolding encode
loop-i-init c = search

-- one more word
more : (out ws : List ℕ) (first i : ℕ) → i < length ws
    → put_word (sets out (4 * first) (encode (take i ws))) (4 * (first + i)) (get_or ws i 0) ≡ sets out (4 * first) (encode (take (i + 1) ws))
more out ws first i h =
    let n : 4 * (first + i) ≡ 4 * first + 4 * length (take i ws) = simp length-take (omega arith) in
    rw (n, encode_more ws i h) (put_behind out (4 * first) (take i ws) (get_or ws i 0))

pub loop-i-preserved : goal.loop-i-preserved
loop-i-preserved c =
    let a = c.args in
    let i = c.loop-i.i in
    c.put_word.ensures
    ∙ ap (λ (o : List ℕ). put_word o (4 * (a.first + i)) (get_or a.ws.now i 0)) c.loop-i.invariant
    ∙ more a.out.now a.ws.now a.first i (omega arith)

pub returns : goal.returns
returns c = rw (take_all c.loop-i.i c.args.ws.now (omega arith)) at c.loop-i.invariant
