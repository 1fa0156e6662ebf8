use Rattle.std.proofs.Common.{◌+◌, length, refl}
use Rattle.archive_sound.proofs.NumberLemmas.{room_for_one}
use Rattle.archive_sound.proofs.RoomLemmas.{leaves_room, run_leaves_room, same_statements}
use Rattle.archive_sound.proofs.laws.a_command_leaves_room.Goals as goal

pub returns-clause-room : goal.returns-clause-room
returns-clause-room c = λ more command db next sound room it makes. let left = leaves_room more command db next sound room it makes in (left.sound, left.room)

pub returns-clause-machine : goal.returns-clause-machine
returns-clause-machine c = λ more command db next sound room it makes. (leaves_room more command db next sound room it makes).archive_is

pub returns-clause-many : goal.returns-clause-many
returns-clause-many c = λ more commands db next sound room all makes.
    let left = run_leaves_room commands more (length commands + more) refl db next sound room all makes in (left.sound, left.room, left.archive_is)

pub returns-clause-statements : goal.returns-clause-statements
returns-clause-statements c = same_statements

pub returns-clause-enough : goal.returns-clause-enough
returns-clause-enough c = λ more command db room it. room_for_one more db room command it
