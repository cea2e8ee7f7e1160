-- Laws of texts in a buffer: one text behind another is their join. Assumes nothing.
use mathlib.Core.Path.{◌≡◌, refl, sym, ap, ◌∙◌}
use mathlib.Core.List.{List, [], ◌∷◌, ◌++◌}
use Prim.Native.Nat.{ℕ, ◌+◌, ◌≤◌}
use native.Mathlib.Nat.{add-zero}
use native.Mathlib.Omega.{arith}
use lib.ListN.{length, set, length-append}
use lib.Seq.{length-sets}
use Rattle.words.specs.Buffer.{placed}
use Rattle.words.proofs.Buffer.{sets-append, sets-placed}
use Rattle.text.specs.declared.put.Writer.{Writer}
use Rattle.text.specs.Writer.{Wrote}
use Rattle.text.specs.Inner.{Put}

-- ---- from an index of a buffer on

pub put_none : (out : List ℕ) (at : ℕ) → Put out at [] out at
put_none out at = record { index = sym (add-zero at); bytes = refl }

pub put_then : {o₀ o₁ o₂ t u : List ℕ} {i₀ i₁ i₂ : ℕ} → Put o₀ i₀ t o₁ i₁ → Put o₁ i₁ u o₂ i₂ → Put o₀ i₀ (t ++ u) o₂ i₂
put_then {o₀} {o₁} {o₂} {t} {u} {i₀} {i₁} {i₂} p q =
    record {
      index = rw (length-append t u) (omega arith);
      bytes = q.bytes ∙ rw (p.bytes, p.index, sets-append o₀ i₀ t u);
    }

-- one byte more
pub put_one : {out₀ out t : List ℕ} {at i j : ℕ} (b : ℕ) → Put out₀ at t out i → j ≡ i + 1 → Put out₀ at (t ++ (b ∷ [])) (set out i b) j
put_one b p e = put_then p (record { index = e; bytes = refl })

-- a text from the start: the buffer begins with it, and is otherwise untouched
pub put_front : {out after text : List ℕ} {next : ℕ} → Put out 0 text after next → length text ≤ length out
    → (next ≡ length text) × (after ≡ placed text out)
put_front {out} {after} {text} {next} p h = (omega arith, p.bytes ∙ sets-placed text out h)

-- the buffer stays as long as it was
pub put_length : {out after text : List ℕ} {at next : ℕ} → Put out at text after next → length after ≡ length out
put_length {out} {after} {text} {at} p = ap length p.bytes ∙ length-sets out at text

-- ---- behind what a writer has written

-- what is put at a writer's index is written by it, and so the other way round
pub put_wrote : {a b : Writer} {text : List ℕ} → b.out.ghost_name ≡ a.out.ghost_name → Put a.out.now a.at text b.out.now b.at → Wrote a text b
put_wrote same p = record { same = same; long = put_length p; at = p.index; bytes = p.bytes }

pub wrote_put : {a b : Writer} {text : List ℕ} → Wrote a text b → Put a.out.now a.at text b.out.now b.at
wrote_put p = record { index = p.at; bytes = p.bytes }

pub wrote_none : (w : Writer) → Wrote w [] w
wrote_none w = put_wrote refl (put_none w.out.now w.at)

pub wrote_then : {a b c : Writer} {t u : List ℕ} → Wrote a t b → Wrote b u c → Wrote a (t ++ u) c
wrote_then p q = put_wrote (q.same ∙ p.same) (put_then (wrote_put p) (wrote_put q))

-- a text from the start: the buffer begins with it, and is otherwise untouched
pub wrote_front : {a b : Writer} {out text : List ℕ} → a.out.now ≡ out → a.at ≡ 0 → Wrote a text b → length text ≤ length out
    → (b.at ≡ length text) × (b.out.now ≡ placed text out)
wrote_front is front p h = put_front (rw (is, front) at (wrote_put p)) h
