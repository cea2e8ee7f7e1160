-- Document 01, 'Steps worked by hand'. "Steps A to K form a list, and a lone theorem evaluates the definitions on the whole list":
-- the list, and what the theorem compares.
use Rattle.std.specs.Prelude.{List, [], ◌∷◌, ◌++◌, map, ℕ, ◌+◌, ◌*◌, length, replicate}
use Rattle.words.specs.Words.{encode}
use Rattle.planner.specs.declared.StepAnswer.{StepAnswer}
use Rattle.planner.specs.Step.{planned, step_answer, plan_in, moves_in}

-- ---- a worked step

-- what goes in: the words of the sheet and of the old plan, none where there is no old plan; and what comes out: kind and limit, and
-- the words of the new plan and of the moves
pub record Worked : Type 0 where
  pub sheet : List ℕ
  pub old : List ℕ
  pub kind : ℕ
  pub limit : ℕ
  pub plan : List ℕ
  pub moves : List ℕ

-- "Plan: N, kind, limit; N helpands; N shares."
abbrev pub plan_for : ℕ → ℕ → List ℕ → List ℕ → List ℕ
plan_for kind limit helpands shares = (length helpands ∷ kind ∷ limit ∷ []) ++ helpands ++ shares

-- "An old plan given by helpands alone is kind 2 with limit 36 and shares 0."
abbrev pub by_helpands : List ℕ → List ℕ
by_helpands helpands = plan_for 2 36 helpands (replicate (length helpands) 0)

-- "Moves: N, E; E routes; E counts. A route is subdomain × 4,096 + sender × 64 + receiver." Each move is given as subdomain,
-- sender, receiver and count.
abbrev pub moves_for : ℕ → List (ℕ × ℕ × ℕ × ℕ) → List ℕ
moves_for n ms = (n ∷ length ms ∷ []) ++ map (λ m. m.0 * 4096 + m.1 * 64 + m.2) ms ++ map (λ m. m.3) ms

-- sheet and old plan lead to this kind and limit, these helpands and shares, and these moves
abbrev pub leads_to : List ℕ → List ℕ → ℕ → ℕ → List ℕ → List ℕ → List (ℕ × ℕ × ℕ × ℕ) → Worked
leads_to sheet old kind limit helpands shares ms = record {
  sheet = sheet;
  old = old;
  kind = kind;
  limit = limit;
  plan = plan_for kind limit helpands shares;
  moves = moves_for (length helpands) ms;
}

-- ---- the steps

-- "Each node holds its own subdomain unless said." "The rest have N 3, t 10, P 100, L 36, except G. A has t 1; A, B, D and J have
-- no old plan." Request 2026-01: "The worked steps take ten times their t." So where document 01 is quoted with t 1 the sheet has 10, and
-- where with t 10 it has 100. What document 01 leaves to its rules was worked out by hand and by the second implementation: that C has
-- L 2, which is 3/2 rounded up; the roots and shares of kind 0; that B and J have no moves; and the moves of C, F, G, H, I and K, each of
-- which brings a helper its whole share.

-- "A: N 1, E 0: L 0, kind 0, no moves."
abbrev pub step_A : Worked
step_A =
    leads_to (1 ∷ 10 ∷ 0 ∷ []) []
    0 0 (0 ∷ []) (0 ∷ []) []

-- "B: t 1, counts 2, 1: L 2, kind 0."
abbrev pub step_B : Worked
step_B =
    leads_to (2 ∷ 10 ∷ 2 ∷ 0 ∷ 65 ∷ 2 ∷ 1 ∷ []) []
    0 2 (0 ∷ 1 ∷ []) (0 ∷ 0 ∷ []) []

-- "C: t 1, counts 3, 0, no plan: kind 2, helpands 0, 0, shares 0, 1."
abbrev pub step_C : Worked
step_C =
    leads_to (2 ∷ 10 ∷ 1 ∷ 0 ∷ 3 ∷ []) []
    2 2 (0 ∷ 0 ∷ []) (0 ∷ 1 ∷ []) ((0, 0, 1, 1) ∷ [])

-- "D: 90, 6, 4: sheet words 3 10 3 0 65 130 90 6 4; plan words 3 2 36 0 0 0 0 27 29; moves words 3 2 1 2 27 29."
abbrev pub step_D : Worked
step_D = record {
  sheet = 3 ∷ 100 ∷ 3 ∷ 0 ∷ 65 ∷ 130 ∷ 90 ∷ 6 ∷ 4 ∷ [];
  old = [];
  kind = 2;
  limit = 36;
  plan = 3 ∷ 2 ∷ 36 ∷ 0 ∷ 0 ∷ 0 ∷ 0 ∷ 27 ∷ 29 ∷ [];
  moves = 3 ∷ 2 ∷ 1 ∷ 2 ∷ 27 ∷ 29 ∷ [];
}

-- "E: D's plan; subdomain 0 held 30, 27, 30 by nodes 0, 1, 2; node 1 holds 6 of 1; nodes 0 and 2 hold 3 and 4 of 2: kept, shares
-- 0, 27, 29, moves of 1 from 2 to 0 in subdomain 0 and of 3 from 0 to 2 in subdomain 2."
abbrev pub step_E : Worked
step_E =
    leads_to (3 ∷ 100 ∷ 6 ∷ 0 ∷ 2 ∷ 64 ∷ 65 ∷ 128 ∷ 130 ∷ 30 ∷ 3 ∷ 27 ∷ 6 ∷ 30 ∷ 4 ∷ []) step_D.plan
    1 36 (0 ∷ 0 ∷ 0 ∷ []) (0 ∷ 27 ∷ 29 ∷ []) ((0, 2, 0, 1) ∷ (2, 0, 2, 3) ∷ [])

-- "F: D's plan, 50, 40, 10: helpands 1, 1, 0, shares 7, 0, 23."
abbrev pub step_F : Worked
step_F =
    leads_to (3 ∷ 100 ∷ 3 ∷ 0 ∷ 65 ∷ 130 ∷ 50 ∷ 40 ∷ 10 ∷ []) step_D.plan
    2 36 (1 ∷ 1 ∷ 0 ∷ []) (7 ∷ 0 ∷ 23 ∷ []) ((0, 0, 2, 23) ∷ (1, 1, 0, 7) ∷ [])

-- "G: t 1, counts 0, 5, 2, old helpands 2, 0, 2: L 3, new helpands 1, 1, 1, shares 3, 0, 0."
abbrev pub step_G : Worked
step_G =
    leads_to (3 ∷ 10 ∷ 2 ∷ 65 ∷ 130 ∷ 5 ∷ 2 ∷ []) (by_helpands (2 ∷ 0 ∷ 2 ∷ []))
    2 3 (1 ∷ 1 ∷ 1 ∷ []) (3 ∷ 0 ∷ 0 ∷ []) ((1, 1, 0, 3) ∷ [])

-- "H: old helpands 0, 0, 1; 28, 72, 0: kept, shares 0, 0, 36."
abbrev pub step_H : Worked
step_H =
    leads_to (3 ∷ 100 ∷ 2 ∷ 0 ∷ 65 ∷ 28 ∷ 72 ∷ []) (by_helpands (0 ∷ 0 ∷ 1 ∷ []))
    1 36 (0 ∷ 0 ∷ 1 ∷ []) (0 ∷ 0 ∷ 36 ∷ []) ((1, 1, 2, 36) ∷ [])

-- "I: the same, 27, 73, 0: rebuilt, helpands 1, 1, 1, shares 7, 0, 33."
abbrev pub step_I : Worked
step_I =
    leads_to (3 ∷ 100 ∷ 2 ∷ 0 ∷ 65 ∷ 27 ∷ 73 ∷ []) (by_helpands (0 ∷ 0 ∷ 1 ∷ []))
    2 36 (1 ∷ 1 ∷ 1 ∷ []) (7 ∷ 0 ∷ 33 ∷ []) ((1, 1, 0, 7) ∷ (1, 1, 2, 33) ∷ [])

-- "J: 36, 36, 28: kind 0."
abbrev pub step_J : Worked
step_J =
    leads_to (3 ∷ 100 ∷ 3 ∷ 0 ∷ 65 ∷ 130 ∷ 36 ∷ 36 ∷ 28 ∷ []) []
    0 36 (0 ∷ 1 ∷ 2 ∷ []) (0 ∷ 0 ∷ 0 ∷ []) []

-- "K: 37, 35, 28, no plan: helpands 1, 1, 0, shares 2, 0, 5."
abbrev pub step_K : Worked
step_K =
    leads_to (3 ∷ 100 ∷ 3 ∷ 0 ∷ 65 ∷ 130 ∷ 37 ∷ 35 ∷ 28 ∷ []) []
    2 36 (1 ∷ 1 ∷ 0 ∷ []) (2 ∷ 0 ∷ 5 ∷ []) ((0, 0, 2, 5) ∷ (1, 1, 0, 2) ∷ [])

unfoldable pub steps : List Worked
steps = step_A ∷ step_B ∷ step_C ∷ step_D ∷ step_E ∷ step_F ∷ step_G ∷ step_H ∷ step_I ∷ step_J ∷ step_K ∷ []

-- ---- what a step comes to

-- the answer of *plan a step*, and the bytes of the plan and of the moves
pub record Outcome : Type 0 where
  pub answer : StepAnswer
  pub plan : List ℕ
  pub moves : List ℕ

-- what the list says: a word has 4 bytes
abbrev pub expected : Worked → Outcome
expected w = record {
  answer = planned w.kind w.limit (4 * length w.plan) (4 * length w.moves);
  plan = encode w.plan;
  moves = encode w.moves;
}

-- what the definitions say, for buffers of exactly those lengths
abbrev pub outcome : Worked → Outcome
outcome w =
    let s = encode w.sheet in
    let o = encode w.old in
    record {
      answer = step_answer s o (4 * length w.plan) (4 * length w.moves);
      plan = plan_in s o;
      moves = moves_in s o;
    }
