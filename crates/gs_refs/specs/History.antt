-- A session's history is a list of entries, the newest first: what stands behind an entry is earlier.
use Rattle.std.specs.Prelude.{ℕ, ◌≡◌, ◌+◌, Bool, true, false, ◌&&◌, ◌||◌, not, List, [], ◌∷◌, Option, Some, None}
use Rattle.std.specs.Prelude.{nat_lt, ◌==◌, if◌then◌else◌}
use Rattle.gs_refs.specs.declared.entry.Entry.{Entry}
use Rattle.gs_refs.specs.declared.entry.Entry.TheVariants.{Sent, Invalid, IdrAsked, Ended}

-- how many frames were sent, which is the number of the last one
abbrev pub frames : List Entry → ℕ
frames [] = 0
frames (Sent tick kind reference ∷ h) = frames h + 1
frames (Invalid first last ∷ h) = frames h
frames (IdrAsked ∷ h) = frames h
frames (Ended first last ∷ h) = frames h

-- What a frame was sent as: from which tick, of which kind, and, where it refers to another frame, that frame and the
-- tick of that frame, which its unit is a delta against.
pub record SentFrame : Type 0 where
  pub tick : ℕ
  pub kind : ℕ
  pub reference : Option ℕ
  pub against : Option ℕ

-- A frame of kind 1 or 5 refers to another, and an IDR frame to none.
abbrev pub refers : ℕ → Bool
refers kind = kind == 1 || kind == 5

abbrev pub where_it_refers : ℕ → ℕ → Option ℕ
where_it_refers kind number = if refers kind then Some number else None

abbrev pub sent_as : ℕ → ℕ → ℕ → ℕ → SentFrame
sent_as tick kind reference against = record {
  tick = tick;
  kind = kind;
  reference = where_it_refers kind reference;
  against = where_it_refers kind against;
}

abbrev pub tick_or_zero : Option SentFrame → ℕ
tick_or_zero None = 0
tick_or_zero (Some f) = f.tick

-- frame v, where it was sent
abbrev pub sent_frame : List Entry → ℕ → Option SentFrame
sent_frame [] v = None
sent_frame (Sent tick kind reference ∷ h) v =
    if v == frames h + 1
    then Some (sent_as tick kind reference (tick_or_zero (sent_frame h reference)))
    else sent_frame h v
sent_frame (Invalid first last ∷ h) v = sent_frame h v
sent_frame (IdrAsked ∷ h) v = sent_frame h v
sent_frame (Ended first last ∷ h) v = sent_frame h v

-- the tick of frame v, 0 where it wasn't sent
abbrev pub tick_of : List Entry → ℕ → ℕ
tick_of h v = tick_or_zero (sent_frame h v)

abbrev pub kind_or_zero : Option SentFrame → ℕ
kind_or_zero None = 0
kind_or_zero (Some f) = f.kind

-- the kind of frame v, 0 where it wasn't sent
abbrev pub frame_kind : List Entry → ℕ → ℕ
frame_kind h v = kind_or_zero (sent_frame h v)

abbrev pub reference_or_none : Option SentFrame → Option ℕ
reference_or_none None = None
reference_or_none (Some f) = f.reference

-- the frame that frame v refers to, where it refers to one
abbrev pub reference_of : List Entry → ℕ → Option ℕ
reference_of h v = reference_or_none (sent_frame h v)

-- the tick of the last frame, 0 where none was sent
abbrev pub last_tick : List Entry → ℕ
last_tick h = tick_of h (frames h)

-- Frame v is valid: it was sent, no later frame is an IDR frame, and no later invalidation begins at
-- v or below.
abbrev pub is_valid : List Entry → ℕ → Bool
is_valid [] v = false
is_valid (Sent tick kind reference ∷ h) v = (v == frames h + 1) || (not (kind == 2) && is_valid h v)
is_valid (Invalid first last ∷ h) v = nat_lt v first && is_valid h v
is_valid (IdrAsked ∷ h) v = is_valid h v
is_valid (Ended first last ∷ h) v = is_valid h v

abbrev pub IsValid : List Entry → ℕ → Type 0
IsValid h v = is_valid h v ≡ true

-- an IDR unit was asked for after the last IDR frame
abbrev pub idr_is_owed : List Entry → Bool
idr_is_owed [] = false
idr_is_owed (Sent tick kind reference ∷ h) = not (kind == 2) && idr_is_owed h
idr_is_owed (Invalid first last ∷ h) = idr_is_owed h
idr_is_owed (IdrAsked ∷ h) = true
idr_is_owed (Ended first last ∷ h) = idr_is_owed h

abbrev pub has_ended : List Entry → Bool
has_ended [] = false
has_ended (Sent tick kind reference ∷ h) = has_ended h
has_ended (Invalid first last ∷ h) = has_ended h
has_ended (IdrAsked ∷ h) = has_ended h
has_ended (Ended first last ∷ h) = true
