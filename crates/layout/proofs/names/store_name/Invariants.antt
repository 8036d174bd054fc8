-- Each round writes the next byte of the name; after the last all are written.
use Rattle.std.specs.Prelude.{◌≡◌, ◌≤◌, ◌<◌}
use Rattle.layout.specs.Names.{name_length, name_start, name_byte, written}
use Rattle.layout.proofs.names.store_name.Given as goal

abbrev pub invariant-loop-i : goal.invariant-loop-i
invariant-loop-i l =
    (l.i ≤ name_length) × (l.start ≡ name_start l.name) × (l.name < 2)
    × (l.names ≡ written (name_byte (record { kept = l.kept; heads = l.heads })) l.start l.i l.initial.names)
