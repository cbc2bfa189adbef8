-- The positions of a log.
use Rattle.std.specs.Prelude.{Option, None, Some}
use Rattle.rw_types.specs.declared.entry.Entry.{Entry}
use Rattle.rw_types.specs.declared.entry.Entry.TheVariants.{Def, Sample}
use Rattle.rw_world.specs.declared.log.Ahead.{Ahead}
use Rattle.rw_world.specs.declared.log.Ahead.TheVariants as ahead

-- what is at a position of a log
abbrev pub ahead_of : Option Entry → Ahead
ahead_of None = ahead.Nothing
ahead_of (Some (Def r l)) = ahead.Definition
ahead_of (Some (Sample r t word)) = ahead.Sample r t
