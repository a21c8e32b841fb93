-- Cited by private contracts alone: what a session's references keep beside its history.
use Rattle.std.specs.Prelude.{ℕ, ◌≡◌, ◌+◌, ◌-◌, ◌≤◌, Bool, List, Option, Some, None, is_some, if◌then◌else◌}
use Rattle.gs_tape.specs.Tick.{Tick}
use Rattle.gs_refs.specs.declared.entry.Entry.{Entry}
use Rattle.gs_refs.specs.declared.chosen.Chosen.{Chosen}
use Rattle.gs_refs.specs.declared.sent.Sent.{Sent}
use Rattle.gs_refs.specs.History.{frames, tick_of, last_tick, idr_is_owed, has_ended}
use Rattle.gs_refs.specs.Choice.{Choice, idr, names}
use Rattle.gs_refs.specs.Candidates.{KeptCandidates, KeepsValid}

-- there is room once the candidates have theirs
abbrev pub spare_room : Option KeptCandidates → ℕ → ℕ → ℕ
spare_room candidates capacity length = if is_some candidates then capacity - length else 0

-- before there is room, no frame was sent
abbrev pub KeepsCandidates : List Entry → Option KeptCandidates → Type 0
KeepsCandidates h None = frames h ≡ 0
KeepsCandidates h (Some kept) = KeepsValid h kept

-- the counts and flags are those of the history; each frame is from a later tick than the one before
pub record Stands (h : List Entry) (sent last : ℕ) (owed ended : Bool)
    (candidates : Option KeptCandidates) : Type 0 where
  pub count : sent ≡ frames h
  pub tick : last ≡ last_tick h
  pub owes : owed ≡ idr_is_owed h
  pub over : ended ≡ has_ended h
  pub rise : frames h ≤ last_tick h
  pub kept : KeepsCandidates h candidates

-- against the last frame, where the tick has a delta against its tick
abbrev pub next_or_idr : List Entry → Tick → Choice
next_or_idr h t = if names t (last_tick h) then record { kind = 1; reference = frames h } else idr

-- it is this choice, with the tick of the frame that it refers to
pub record Chooses (h : List Entry) (c : Choice) (chosen : Chosen) : Type 0 where
  pub kind : chosen.kind ≡ c.kind
  pub reference : chosen.reference ≡ c.reference
  pub named : chosen.named ≡ tick_of h c.reference

-- the tick of a number as the next frame
abbrev pub chosen_sent : List Entry → ℕ → Chosen → Sent
chosen_sent h number c =
    record { frame = frames h + 1; tick = number; kind = c.kind; reference = c.reference; named = c.named }
