use Rattle.std.proofs.Common.{◌≡◌, true, ap, ◌∙◌, arith, is_some, ◌||◌, nat_lt, length}
use Rattle.machine.specs.Files.{takes_name}
use Rattle.file_manager.proofs.Room.{room_kept}
use Rattle.file_manager.proofs.shelf.Shelf.write.Goals as goal

pub invariant_of-self-2 : goal.invariant_of-self-2
invariant_of-self-2 c =
    let room : takes_name c.self.inside.files.entries c.args.name ≡ true =
    ap (λ s. takes_name s.names c.args.name) c.self.view_is ∙ c.requires.room in
    let left = ap (λ s. s.drawn) c.self.view_is in (
      room_kept (is_some c.in_ok-old.old) (length c.self.inside.files.entries) (length c.insert.new.self.entries)
          (ap (λ o. is_some o || nat_lt (length c.self.inside.files.entries) 128) c.in_ok-old.ensures.old ∙ room)
          c.self.invariant.0 c.in_ok-old.ensures.len,
      omega (arith, left, c.requires.left),
    )
