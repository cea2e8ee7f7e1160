-- The ranges of the papers' numbers, each in one definition, and the limit.
use Rattle.std.specs.Prelude.{ℕ, ◌+◌, ◌-◌, ◌*◌, ◌/◌, max, Bool, ◌&&◌, leb}

-- "N is 1 to 64"
abbrev pub max_nodes : ℕ
max_nodes = 64

-- x is 1 to most
abbrev pub one_to : ℕ → ℕ → Bool
one_to most x = leb 1 x && leb x most

-- a table of counts has a count for each of 64 holders and 64 subdomains
abbrev pub table_size : ℕ
table_size = 4096

-- Request 2026-01: "From now on t in the sheet counts tenths of a percent, 1 to 999"
abbrev pub max_tolerance : ℕ
max_tolerance = 999

-- t counts parts of this many
abbrev pub tolerance_scale : ℕ
tolerance_scale = 1000

-- "the total P is at most 1,000,000,000."
abbrev pub max_total : ℕ
max_total = 1000000000

-- *Read plan*. Request 2026-01: "14 allows up to 1,999,000,000".
abbrev pub max_limit : ℕ
max_limit = 1999000000

-- "Limit L: the larger of P/N rounded up and" a second part, which by request 2026-01 "is P × (1000+t) / (1000 × N) rounded down."
unfoldable pub limit_of : ℕ → ℕ → ℕ → ℕ
limit_of p n t = max ((p + n - 1) / n) (p * (tolerance_scale + t) / (tolerance_scale * n))
