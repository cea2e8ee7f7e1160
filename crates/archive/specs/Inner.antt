-- What the inner functions of this crate ask of each other and give. No promise to a caller rests on these definitions.
use Rattle.std.specs.Prelude.{◌≡◌, List, ℕ, ◌≤◌, length}
use Rattle.limit.specs.Limit.{max_nodes, max_tolerance}
use Rattle.archive.specs.Archive.{archive_size, nodes_in, tolerance_in}

-- the archive passes 54, 2 and 3, and its N and t are these
pub record HeadRead (a : List ℕ) (n t : ℕ) : Type 0 where
  pub size : length a ≡ archive_size
  pub n_is : n ≡ nodes_in a
  pub t_is : t ≡ tolerance_in a
  pub n_low : 1 ≤ n
  pub n_high : n ≤ max_nodes
  pub t_low : 1 ≤ t
  pub t_high : t ≤ max_tolerance
