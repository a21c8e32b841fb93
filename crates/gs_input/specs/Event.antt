-- Input events: what each call that is given one can rest on.
use Rattle.std.specs.Prelude.{ℕ, ◌≤◌, ◌<◌, ◌^◌, ⊤, FitsSigned}
use Rattle.std.specs.Int.{w16}
use Rattle.gs_input.specs.declared.event.Event.{Event}
use Rattle.gs_input.specs.declared.event.Event.TheVariants.{KeyDown, KeyUp, Move, At, Press, Release, Scroll, Unknown}

-- the buttons of a pointer have the numbers 1 to 5
abbrev pub IsButton : ℕ → Type 0
IsButton button = (1 ≤ button) × (button ≤ 5)

-- a press or a release names a button
abbrev pub HasButton : Event → Type 0
HasButton (Press button) = IsButton button
HasButton (Release button) = IsButton button
HasButton _ = ⊤

-- the kind of the event is one that this crate knows
abbrev pub IsKnown : Event → Type 0
IsKnown (Unknown magic) = ⊥
IsKnown _ = ⊤

-- each number of the event is one of its type
abbrev pub FitsTypes : Event → Type 0
FitsTypes (KeyDown code modifiers) = FitsSigned w16 code × (modifiers < 2 ^ 8)
FitsTypes (KeyUp code modifiers) = FitsSigned w16 code × (modifiers < 2 ^ 8)
FitsTypes (Move dx dy) = FitsSigned w16 dx × FitsSigned w16 dy
FitsTypes (At x y width height) = FitsSigned w16 x × FitsSigned w16 y × FitsSigned w16 width × FitsSigned w16 height
FitsTypes (Press button) = button < 2 ^ 8
FitsTypes (Release button) = button < 2 ^ 8
FitsTypes (Scroll amount) = FitsSigned w16 amount
FitsTypes (Unknown magic) = magic < 2 ^ 32

-- an event of a known kind, with numbers in their ranges
pub record IsEvent (event : Event) : Type 0 where
  pub known : IsKnown event
  pub types : FitsTypes event
  pub button : HasButton event
