use Rattle.std.proofs.Common.{◌≡◌, ◌*◌, ℕ, [], ◌∷◌, map, get_or, Bool, false, sym, ap, ◌∙◌}
use Rattle.std.specs.Option.{option_copied}
use Rattle.gs_audio.specs.Units.{units_from}
use Rattle.gs_audio.specs.Holding.{shard_in}
use Rattle.gs_audio.proofs.Rooms.{listed, marked, units_from-listed, room-listed, none_listed}
use Rattle.gs_audio.proofs.room.Room.units.Goals as goal

pub returns-then-has_units-clause-units : goal.returns-then-has_units-clause-units
returns-then-has_units-clause-units c = λ held block holds first_is.
    let room = c.args.self.now in
    let us = c.unit.result ∷ c.unit-2.result ∷ c.unit-3.result ∷ c.unit-4.result ∷ [] in
    let same : map option_copied us ≡ marked room = cc in
    ap (λ (n : ℕ). units_from n us) first_is ∙ units_from-listed (block * 4) us ∙ ap (listed (block * 4)) same
    ∙ room-listed room held block holds

pub returns-else-has_units-clause-units : goal.returns-else-has_units-clause-units
returns-else-has_units-clause-units c = λ held block holds first_is.
    let room = c.args.self.now in
    let mark : ℕ → Bool = λ i. get_or room.present i false in
    sym (none_listed (block * 4) (mark 0) (mark 1) (mark 2) (mark 3) (shard_in room 0) (shard_in room 1) (shard_in room 2) (shard_in room 3)
    (sym c.has_units.ensures ∙ c.if-has_units.false))
    ∙ room-listed room held block holds
