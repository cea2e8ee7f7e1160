-- Demand 2 of *groups*, and the request's sentences, over the bytes that are written. Assumes nothing.
use mathlib.Core.Path.{◌≡◌, refl, sym, ap, ◌∙◌}
use mathlib.Core.Logic.{◌⊎◌, inl, inr}
use mathlib.Core.List.{List, [], ◌∷◌, ◌++◌}
use Prim.Native.Nat.{ℕ, ◌+◌, ◌*◌, ◌<◌, ◌^◌}
use native.Mathlib.Omega.{arith}
use borrow.Author.Tests.{eq-eqb}
use lib.ListN.{length, get_or, drop}
use Rattle.fold.proofs.Tests.{handed}
use Rattle.arrays.specs.Arrays.{at}
use Rattle.arrays.proofs.Tabulate.{row_at}
use Rattle.words.specs.Words.{words}
use Rattle.words.specs.declared.WrittenAnswer.{WrittenAnswer}
use Rattle.words.specs.Answer.{refused}
use Rattle.words.proofs.Words.{Below, below_none, below-cons, word-front, part_at}
use Rattle.words.proofs.Records.{Back, record_back}
use Rattle.plan.specs.Plan.{read_plan, helpands_of}
use Rattle.groups.specs.declared.colour.Colour.{Colour}
use Rattle.groups.specs.declared.colour.Colour.TheVariants.{Even, Odd}
use Rattle.groups.specs.Group.{none, group_in}
use Rattle.groups.specs.Groups.{groups_in, groups_bytes, groups_of, groups_answer, groups_after, entry_in, GroupsReadBack, MessageGroups}
use Rattle.groups.specs.Inner.{Rooted}
use Rattle.groups.proofs.Planned.{plan-rooted, kind-none}
use Rattle.groups.proofs.Placing.{length_in, length-groups}
use Rattle.groups.proofs.Together.{entry-node, message_groups}

module _ {n : ℕ} {h : ℕ → ℕ} (t : Rooted n h) where
  fits : (c : Colour) → Below (2 ^ 32) (groups_in n h c)
  fits c k l =
      let b : k < n = omega (arith, length_in n h c) in
      by b (entry-node t c k b)
    where
      by : k < n → (group_in n h c k < n) ⊎ (group_in n h c k ≡ none) → get_or (groups_in n h c) k 0 < 2 ^ 32
      by b (inl y) = omega (arith, row_at (group_in n h c) n k b, t.few)
      by b (inr z) = omega (arith, row_at (group_in n h c) n k b)

  back : Back (n ∷ []) (groups_in n h Even) (groups_in n h Odd) n
  back =
      record_back (n ∷ []) (groups_in n h Even) (groups_in n h Odd) n (length_in n h Even) (length_in n h Odd)
      (below-cons (2 ^ 32) n [] (omega (arith, t.few)) (below_none (2 ^ 32))) (fits Even) (fits Odd)

  -- a word of the record stands in front of the buffer
  front : (rest : List ℕ) (i : ℕ) → i < 1 + 2 * n → get_or (words (groups_bytes n h ++ rest)) i 0 ≡ get_or (words (groups_bytes n h)) i 0
  front rest i l = word-front (groups_bytes n h) rest i (omega (arith, length-groups n h))

  nodes_back : (rest : List ℕ) → get_or (words (groups_bytes n h ++ rest)) 0 0 ≡ n
  unfolding groups_bytes
  nodes_back rest = front rest 0 (omega arith) ∙ ap (λ (ws : List ℕ). get_or ws 0 0) back.all

  entries_back : (rest : List ℕ) (c : Colour) (k : ℕ) → k < n → entry_in (groups_bytes n h ++ rest) n c k ≡ group_in n h c k
  unfolding groups_bytes
  entries_back rest Even k l =
      front rest (1 + k) (omega arith)
      ∙ sym (part_at (words (groups_bytes n h)) 1 n k l)
      ∙ ap (λ (ws : List ℕ). get_or ws k 0) back.first
      ∙ row_at (group_in n h Even) n k l
  entries_back rest Odd k l =
      front rest (1 + n + k) (omega arith)
      ∙ sym (part_at (words (groups_bytes n h)) (1 + n) n k l)
      ∙ ap (λ (ws : List ℕ). get_or ws k 0) back.second
      ∙ row_at (group_in n h Odd) n k l

-- ---- after an accepted call

module _ (p out : List ℕ) (q : (groups_answer p (length out)).refusal ≡ 0) where
  abbrev n₀ : ℕ
  n₀ = (read_plan p).n

  pub plan_fine : (read_plan p).refusal ≡ 0
  unfolding groups_answer
  plan_fine = (handed (λ (a : WrittenAnswer). a.refusal) refused (λ k. refl) (read_plan p).refusal _ q).0

  -- THEOREM. The words in front of the buffer are N and each node's group, in the even colour and then in the odd.
  pub groups-read_back : GroupsReadBack p (groups_after p out)
  unfolding groups_of
  groups-read_back =
      let rest = drop (length (groups_of p)) out in
      let t = plan-rooted p plan_fine in
      rw (eq-eqb _ 0 q) (record { nodes = nodes_back t rest; entries = entries_back t rest })

  -- THEOREM. Two different nodes share an entry other than 64 in a colour exactly when they belong to one family of that colour; a node's
  -- entry is the owner of the one group of that colour that it is in; an owner with a helper stands in its own group.
  pub groups_message : MessageGroups n₀ (at (helpands_of p n₀)) (entry_in (groups_after p out) n₀)
  groups_message = message_groups (plan-rooted p plan_fine) (entry_in (groups_after p out) n₀) groups-read_back.entries

  -- THEOREM. "Kind 0 gives 64 everywhere."
  pub kind_0_none : (read_plan p).kind ≡ 0 → (c : Colour) (k : ℕ) → k < n₀ → entry_in (groups_after p out) n₀ c k ≡ none
  kind_0_none z c k l = groups-read_back.entries c k l ∙ kind-none p plan_fine z c k
