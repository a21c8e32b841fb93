-- What readers take, put together.
use Rattle.std.proofs.Common.{Bool, true, ◌≡◌, ℕ, ◌^◌, ◌<◌, List, [], ◌∷◌, ◌++◌, refl, sym, ap, ◌∙◌}
use Rattle.std.proofs.lemmas.List.{append-nil}
use Rattle.gs_enet_wire.specs.declared.command.Command.{Command}
use Rattle.gs_enet_wire.specs.declared.command.Head.{Head}
use Rattle.gs_enet_wire.specs.Grammar.{WireField, fields_bytes, field_bytes, u8, u16, IsFirst, after_first, kind, command_head}
use Rattle.gs_enet_wire.specs.Reading.{TakesFields, TakesHead, TakesBody, TakesCommand}

-- a field that is spelled by those bytes
pub takes_field : (f : WireField) (front old new : List ℕ) → old ≡ front ++ new → field_bytes f ≡ front → f.1 < 256 ^ f.0 → TakesFields (f ∷ []) old new
takes_field f front old new parts spelled small =
    record { parts = parts ∙ ap (λ (l : List ℕ). l ++ new) (sym spelled ∙ sym (append-nil (field_bytes f))); fit = (small, tt) }

-- a command whose head and body were taken
pub takes_command : {t : Bool} {k : ℕ} {h : Head} {c : Command} {old mid new : List ℕ} → TakesHead k h old mid → TakesBody k h c mid new
    → (h.asks ≡ true → t ≡ true) → TakesCommand t c old new
takes_command {t = t} {c = c} {old = old} {mid = mid} p q answerable =
    let start : TakesHead (kind c) (command_head c) old mid = rw (q.is_kind, q.is_head) p in
    let first : IsFirst start.first c = record { small = start.small; low = start.low; high = start.high } in
    let answers : (command_head c).asks ≡ true → t ≡ true = rw q.is_head answerable in
    record {
      front = start.first ∷ after_first c;
      parts = start.parts ∙ ap (λ (l : List ℕ). start.first ∷ (fields_bytes (u8 (command_head c).channel ∷ u16 (command_head c).number ∷ []) ++ l)) q.parts;
      is_command = record { first = start.first; is_first = first; spelled = refl; fit = (start.fit.0, (start.fit.1.0, q.fit)); answerable = answers };
    }
