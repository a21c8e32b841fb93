-- Which unit of a tick a host sends, and which histories it may have.
use Rattle.std.specs.Prelude.{ℕ, zero, suc, ◌≡◌, ◌<◌, ◌≤◌, pos, ◌≤ℤ◌, Bool, false, ◌&&◌, ◌||◌, List, [], ◌∷◌, Option}
use Rattle.std.specs.Prelude.{Some, None, ◌==◌, if◌then◌else◌}
use Rattle.std.specs.List.{list_any}
use Rattle.gs_tape.specs.Tick.{Tick, tick_numbered}
use Rattle.gs_refs.specs.declared.entry.Entry.{Entry}
use Rattle.gs_refs.specs.declared.entry.Entry.TheVariants.{Sent, Invalid, IdrAsked, Ended}
use Rattle.gs_refs.specs.History.{frames, tick_of, last_tick, is_valid, idr_is_owed, has_ended}

-- the tick has a delta against that one
abbrev pub names : Tick → ℕ → Bool
names t number = list_any (λ d. d.named == number) t.deltas

-- the greatest valid frame, of the first n, whose tick the tick has a delta against
abbrev pub greatest_named : List Entry → Tick → ℕ → Option ℕ
greatest_named h t zero = None
greatest_named h t (suc v) =
    if is_valid h (suc v) && names t (tick_of h (suc v)) then Some (suc v) else greatest_named h t v

-- how a tick is sent: the kind, and the frame that it refers to
pub record Choice : Type 0 where
  pub kind : ℕ
  pub reference : ℕ

abbrev pub idr : Choice
idr = record { kind = 2; reference = 0 }

-- against an older frame, which lets a client go on that lost what came since
abbrev pub re_entry : Option ℕ → Choice
re_entry None = idr
re_entry (Some v) = record { kind = 5; reference = v }

-- The first that applies: an IDR unit where none was sent or one is owed; a delta against the last
-- frame, where that is valid; a delta against the greatest valid frame, where the last one isn't;
-- an IDR unit.
abbrev pub choice : List Entry → Tick → Choice
choice h t =
    if frames h == 0 || idr_is_owed h then idr
    else (if is_valid h (frames h)
    then (if names t (last_tick h) then record { kind = 1; reference = frames h } else idr)
    else re_entry (greatest_named h t (frames h)))

-- a range of frames that were sent
abbrev pub IsRange : ℕ → ℕ → ℕ → Type 0
IsRange sent first last = (1 ≤ first) × (first ≤ last) × (last ≤ sent)

-- The entry may follow the history, over the ticks of a capture: what is sent is the choice for a later
-- tick, what is invalid is a range of frames that were sent, and a range that isn't one ends it.
abbrev pub MayFollow : List Tick → List Entry → Entry → Type 0
MayFollow ticks h (Sent tick kind reference) =
    (last_tick h < tick) × (t : Tick) × (tick_numbered ticks tick ≡ Some t)
    × (choice h t ≡ record { kind = kind; reference = reference })
MayFollow ticks h (Invalid first last) = IsRange (frames h) first last
MayFollow ticks h IdrAsked = Unit {0}
MayFollow ticks h (Ended first last) = (pos 1 ≤ℤ first) → (first ≤ℤ last) → (last ≤ℤ pos (frames h)) → ⊥

abbrev pub IsLegal : List Tick → List Entry → Type 0
IsLegal ticks [] = Unit {0}
IsLegal ticks (e ∷ h) = IsLegal ticks h × (has_ended h ≡ false) × MayFollow ticks h e
