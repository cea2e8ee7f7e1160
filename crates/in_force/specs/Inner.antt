-- What the inner functions of this crate ask of each other. No promise to a caller rests on these definitions.
use Rattle.std.specs.Prelude.{◌*◌}
use Rattle.in_force.specs.InForce.{Where, of_old, of_new, empty_stretch}
use Rattle.in_force.specs.declared.Chosen.{Chosen}
use Rattle.in_force.specs.declared.Chosen.TheVariants.{Old, New, Empty}

-- the stretch that each case of the enum stands for
abbrev pub where_of : Chosen → Where
where_of (Old n) = of_old 12 (4 * n)
where_of (New n) = of_new 12 (4 * n)
where_of Empty = empty_stretch
