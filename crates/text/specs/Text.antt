-- Document 01, 'The bench program': what it prints, as lists of bytes. The paper shows no byte for the end of a line: here every
-- line ends with a newline, the last one too.
use Rattle.std.specs.Prelude.{ℕ, zero, suc, ◌+◌, ◌/◌, ◌%◌, List, [], ◌∷◌, ◌++◌, cond, get_or, ltb}
use Prim.Native.Char.{code}
use Prim.Native.String.{String, [] as []ˢ, ◌∷◌ as ◌∷ˢ◌}
use Rattle.fold.specs.Collect.{collect}
use Rattle.moves.specs.Moves.{subdomain, sender, receiver}

-- ---- numbers: "Numbers are in base ten."

-- the byte of a digit
abbrev pub digit : ℕ → ℕ
digit d = 48 + d

-- the digits of a number that has at most k of them, the highest first and no zero in front
unfoldable pub digits : ℕ → ℕ → List ℕ
digits zero x = []
digits (suc k) x =
    let higher = digits k (x / 10) in
    cond (ltb x 10) (digit x ∷ []) (higher ++ (digit (x % 10) ∷ []))

-- every number that is printed is a word of 32 bits, which has at most ten
abbrev pub decimal : ℕ → List ℕ
decimal x = digits 10 x

-- ---- names, given by their letters

-- the bytes of a text of ASCII characters
abbrev pub ascii : String → List ℕ
ascii []ˢ = []
ascii (c ∷ˢ s) = code c ∷ ascii s

-- ---- lines: names and numbers in turn, with a blank between them

abbrev pub blank : ℕ
blank = 32

abbrev pub newline : ℕ
newline = 10

-- a name and its number, and the byte behind them: a blank before the next name, or the newline
unfoldable pub field : List ℕ → ℕ → ℕ → List ℕ
field name x end = name ++ (blank ∷ decimal x ++ (end ∷ []))

-- "Line 1: kind and L."
unfoldable pub head_line : ℕ → ℕ → List ℕ
head_line kind limit = field (ascii "kind") kind blank ++ field (ascii "limit") limit newline

-- "Node lines: node, helpand, share, amount of its own subdomain."
unfoldable pub node_line : ℕ → ℕ → ℕ → ℕ → List ℕ
node_line node helpand share own =
    field (ascii "node") node blank
    ++ field (ascii "helps") helpand blank
    ++ field (ascii "share") share blank
    ++ field (ascii "own") own newline

-- "Move lines: subdomain, sender, receiver, particles."
unfoldable pub move_line : ℕ → ℕ → List ℕ
move_line route count =
    field (ascii "move") (subdomain route) blank
    ++ field (ascii "from") (sender route) blank
    ++ field (ascii "to") (receiver route) blank
    ++ field (ascii "count") count newline

-- ---- the whole text

-- the lines of nodes 0 to n − 1
abbrev pub nodes_text : ℕ → List ℕ → List ℕ → List ℕ → List ℕ
nodes_text n helpands shares own = collect n (λ k. node_line k (get_or helpands k 0) (get_or shares k 0) (get_or own k 0))

-- line 1 and the node lines
abbrev pub plan_text : ℕ → ℕ → ℕ → List ℕ → List ℕ → List ℕ → List ℕ
plan_text kind limit n helpands shares own = head_line kind limit ++ nodes_text n helpands shares own

-- the lines of the first e moves, in their order
abbrev pub moves_text : ℕ → List ℕ → List ℕ → List ℕ
moves_text e routes counts = collect e (λ i. move_line (get_or routes i 0) (get_or counts i 0))

-- what an accepted step prints
unfoldable pub step_text : ℕ → ℕ → ℕ → List ℕ → List ℕ → List ℕ → ℕ → List ℕ → List ℕ → List ℕ
step_text kind limit n helpands shares own e routes counts =
    plan_text kind limit n helpands shares own ++ moves_text e routes counts

-- "A refusal prints only `refused 5` with its number."
unfoldable pub refused_text : ℕ → List ℕ
refused_text number = field (ascii "refused") number newline
