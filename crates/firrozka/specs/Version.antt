-- The library's version, as CHANGELOG.md counts it.
use Rattle.std.specs.Prelude.{ℕ}

-- 100 × major + minor: 1.9 is 109, and 1.14 will be 114.
abbrev pub version : ℕ
version = 109
