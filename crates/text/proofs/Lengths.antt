-- How long the texts are: a number has at most ten bytes, a line at most 64. At the end, the bound of a whole text. Assumes
-- nothing.
use mathlib.Core.Path.{◌≡◌}
use mathlib.Core.List.{List}
use Prim.Native.Nat.{ℕ, zero, suc, ◌+◌, ◌*◌, ◌≤◌, ◌<◌}
use native.Mathlib.Omega.{arith}
use lib.ListN.{length, get_or, take, length-append}
use lib.Seq.{get_or-take}
use Rattle.fold.proofs.Lists.{collect-eq}
use Rattle.fold.specs.Collect.{collect}
use Rattle.limit.specs.Limit.{max_nodes}
use Rattle.text.specs.Text.{decimal, blank, newline, ascii, field, head_line, node_line, nodes_text, move_line, moves_text, step_text, refused_text}
use Rattle.text.proofs.Digits.{digits_le, digits_short}

pub decimal-le : (x : ℕ) → length (decimal x) ≤ 10
decimal-le x = digits_le 10 x

pub length-field : (name : List ℕ) (x end : ℕ) → length (field name x end) ≡ length name + length (decimal x) + 2
unfolding field
length-field name x end = simp length-append (omega arith)

pub field-le : (name : List ℕ) (x end : ℕ) → length (field name x end) ≤ length name + 12
field-le name x end = omega (arith, length-field name x end, decimal-le x)

-- a node's number has at most two digits
pub node-field-le : (node end : ℕ) → node < max_nodes → length (field (ascii "node") node end) ≤ 8
node-field-le node end h = omega (arith, length-field (ascii "node") node end, digits_short 10 1 node (omega arith))

-- ---- the lines

pub head-le : (kind limit : ℕ) → length (head_line kind limit) ≤ 64
unfolding head_line
head-le kind limit = simp length-append (omega (arith, field-le))

pub node-le : (node helpand share own : ℕ) → node < max_nodes → length (node_line node helpand share own) ≤ 64
unfolding node_line
node-le node helpand share own h =
    simp length-append (omega (arith, node-field-le node blank h, field-le))

pub move-le : (route count : ℕ) → length (move_line route count) ≤ 64
unfolding move_line
move-le route count =
    simp length-append (omega (arith, field-le))

pub refused-le : (number : ℕ) → length (refused_text number) ≤ 64
unfolding refused_text
refused-le number = omega (arith, field-le (ascii "refused") number newline)

-- ---- many lines

pub collect-le : (b n : ℕ) (f : ℕ → List ℕ) → ((k : ℕ) → k < n → length (f k) ≤ b) → length (collect n f) ≤ b * n
unfolding collect
collect-le b zero f h = omega arith
collect-le b (suc n) f h = simp length-append (omega (arith, collect-le b n f (λ k l. h k (omega arith)), h n (omega arith)))

pub nodes-le : (n : ℕ) (helpands shares own : List ℕ) → n ≤ max_nodes → length (nodes_text n helpands shares own) ≤ 64 * n
nodes-le n helpands shares own h = collect-le 64 n _ (λ k l. node-le k (get_or helpands k 0) (get_or shares k 0) (get_or own k 0) (omega arith))

pub moves-le : (e : ℕ) (routes counts : List ℕ) → length (moves_text e routes counts) ≤ 64 * e
moves-le e routes counts = collect-le 64 e _ (λ i l. move-le (get_or routes i 0) (get_or counts i 0))

-- the lines of the first e entries of two arrays
pub moves-front : (e : ℕ) (routes counts : List ℕ) → moves_text e (take e routes) (take e counts) ≡ moves_text e routes counts
moves-front e routes counts =
    collect-eq e _ _ (λ i l. rw (get_or-take e routes i 0 l, get_or-take e counts i 0 l))

pub step-front : (kind limit n : ℕ) (helpands shares own : List ℕ) (e : ℕ) (routes counts : List ℕ)
    → step_text kind limit n helpands shares own e (take e routes) (take e counts) ≡ step_text kind limit n helpands shares own e routes counts
unfolding step_text
step-front kind limit n helpands shares own e routes counts = rw (moves-front e routes counts)

-- THEOREM. The text of a step with n nodes and e moves has at most 64 × (1 + n + e) bytes.
pub step-le : (kind limit n : ℕ) (helpands shares own : List ℕ) (e : ℕ) (routes counts : List ℕ) → n ≤ max_nodes
    → length (step_text kind limit n helpands shares own e routes counts) ≤ 64 * (1 + n + e)
unfolding step_text
step-le kind limit n helpands shares own e routes counts h =
    simp length-append (omega (arith, head-le kind limit, nodes-le n helpands shares own h, moves-le e routes counts))

-- THEOREM. With at most 64 nodes and 64 × 63 moves it has at most 262,208 bytes.
pub step_fits : (kind limit n : ℕ) (helpands shares own : List ℕ) (e : ℕ) (routes counts : List ℕ) → n ≤ max_nodes → e ≤ 4032
    → length (step_text kind limit n helpands shares own e routes counts) ≤ 262208
step_fits kind limit n helpands shares own e routes counts h l = omega (arith, step-le kind limit n helpands shares own e routes counts h)
