-- The units of the frames that are handed, in their places.
use Rattle.std.proofs.Common.{◌≡◌, ◌-◌, ℕ, zero, suc, List, [], ◌∷◌, ◌++◌, length, map, Option, Some, None, refl, sym, ap, ◌∙◌, arith}
use Rattle.std.specs.Prelude.{replicate, get_or, ⊤}
use Rattle.std.proofs.lemmas.List.{length-map}
use Rattle.std.proofs.lemmas.List.Elements.{All-head, All-tail}
use Rattle.gs_frames.specs.Client.{ClientSettings, Arrival}
use Rattle.gs_frames.specs.Image.{Frame, frame_of}
use Rattle.gs_frames.specs.Shards.{payload_of}
use Rattle.gs_frames.specs.Received.{taken}
use Rattle.gs_frames.specs.VerdictLaws.{image_of}
use Rattle.gs_frames.specs.Complete.{frame_in, complete, IsComplete}
use Rattle.gs_frames.specs.Handed.{Handed}
use Rattle.gs_frames.proofs.Counting.{complete-is}
use Rattle.gs_client_core.specs.declared.given.Given.{Given}
use Rattle.gs_client_core.specs.Given.{frames_of, handed_as, handed_at, given_frames, in_places, AreGiven}
use Rattle.gs_client_core.specs.Steps.{IsHandReady, AreReady, PlaceGives}

-- ---- a complete frame's image

pub record HasImage (c : ClientSettings) (came : List Arrival) (f : ℕ) (held : Frame) : Type 0 where
  pub image : List ℕ
  pub image_is : image_of c came f ≡ Some image
  pub read : frame_of (payload_of c.stream) image ≡ Some held

image-by : (c : ClientSettings) (came : List Arrival) (f : ℕ) (held : Frame) (o : Option (List ℕ)) → image_of c came f ≡ o
    → frame_in (payload_of c.stream) o ≡ Some held → HasImage c came f held
image-by c came f held None is e = let none : None ≡ Some held = e in cc
image-by c came f held (Some image) is e = record { image = image; image_is = is; read = e }

pub has_image : (c : ClientSettings) (came : List Arrival) (f : ℕ) (held : Frame) → IsComplete c (taken c came) f held → HasImage c came f held
has_image c came f held is =
    image-by c came f held (image_of c came f) refl (sym (complete-is c (taken c came) f) ∙ is)

abbrev made : ℕ → ℕ → List ℕ → Handed
made frame kind unit = record { frame = frame; kind = kind; unit = unit }

made-same : (f g k l : ℕ) (u v : List ℕ) → f ≡ g → k ≡ l → u ≡ v → made f k u ≡ made g l v
made-same f g k l u v frame kind unit = cc

-- the unit is the frame that was read
pub unit_is : (frame kind : ℕ) (unit : List ℕ) (h : Handed) (held : Frame) → frame ≡ h.frame → Some held ≡ Some (record { kind = h.kind; unit = h.unit })
    → kind ≡ held.kind → unit ≡ held.unit → Some (made frame kind unit) ≡ Some h
unit_is frame kind unit h held frame_is e kind_is bytes_are =
    let wanted : Frame = record { kind = h.kind; unit = h.unit } in
    let same : held ≡ wanted = cc in
    let kinds : kind ≡ h.kind = kind_is ∙ ap (λ (x : Frame). x.kind) same in
    let bytes : unit ≡ h.unit = bytes_are ∙ ap (λ (x : Frame). x.unit) same in
    ap (λ (x : Handed). Some x) (made-same frame h.frame kind h.kind unit h.unit frame_is kinds bytes)

-- ---- in places

abbrev Gives : ClientSettings → List Arrival → List (Option ℕ) → List (Option Given) → Type 0
Gives c came [] [] = ⊤
Gives c came [] (u ∷ us) = ⊥
Gives c came (p ∷ ps) [] = ⊥
Gives c came (p ∷ ps) (u ∷ us) = PlaceGives c came p u × Gives c came ps us

fill_none : (c : ClientSettings) (came : List Arrival) (n : ℕ) (places : List (Option ℕ)) (units : List (Option Given)) → Gives c came places units
    → places ≡ replicate n None → map handed_at units ≡ replicate n None
fill_none c came zero [] [] gives e = refl
fill_none c came zero [] (u ∷ us) gives e = absurd gives
fill_none c came zero (p ∷ ps) us gives e = let no : p ∷ ps ≡ [] = e in cc
fill_none c came (suc n) [] us gives e = let no : [] ≡ None ∷ replicate n None = e in cc
fill_none c came (suc n) (p ∷ ps) [] gives e = absurd gives
fill_none c came (suc n) (p ∷ ps) (u ∷ us) gives e =
    let both : p ∷ ps ≡ None ∷ replicate n None = e in
    let first : p ≡ None = cc in
    let others : ps ≡ replicate n None = cc in
    ap (λ (x : Option Given). handed_at x ∷ map handed_at us) (gives.0.none first)
    ∙ ap (λ (l : List (Option Handed)). None ∷ l) (fill_none c came n ps us gives.1 others)

fill : (c : ClientSettings) (came : List Arrival) (n : ℕ) (hs : List Handed) (places : List (Option ℕ)) (units : List (Option Given))
    → AreReady c came hs → Gives c came places units → places ≡ map (λ (x : ℕ). Some x) (frames_of hs) ++ replicate n None
    → map handed_at units ≡ map (λ (h : Handed). Some h) hs ++ replicate n None
fill c came n [] places units ready gives e = fill_none c came n places units gives e
fill c came n (h ∷ hs) [] units ready gives e =
    let no : [] ≡ Some h.frame ∷ (map (λ (x : ℕ). Some x) (frames_of hs) ++ replicate n None) = e in cc
fill c came n (h ∷ hs) (p ∷ ps) [] ready gives e = absurd gives
fill c came n (h ∷ hs) (p ∷ ps) (u ∷ us) ready gives e =
    let rest = map (λ (x : ℕ). Some x) (frames_of hs) ++ replicate n None in
    let both : p ∷ ps ≡ Some h.frame ∷ rest = e in
    let first : p ≡ Some h.frame = cc in
    let others : ps ≡ rest = cc in
    let this = gives.0.some h (All-head (IsHandReady c came) h hs ready) first in
    ap (λ (x : Option Handed). x ∷ map handed_at us) this
    ∙ ap (λ (l : List (Option Handed)). Some h ∷ l) (fill c came n hs ps us (All-tail (IsHandReady c came) h hs ready) gives.1 others)

-- of four places
pub four_units : (c : ClientSettings) (came : List Arrival) (hs : List Handed) (a b d e : Option ℕ) (u v x y : Option Given) → AreReady c came hs
    → PlaceGives c came a u → PlaceGives c came b v → PlaceGives c came d x → PlaceGives c came e y
    → a ∷ b ∷ d ∷ e ∷ [] ≡ in_places (frames_of hs) → AreGiven (u ∷ v ∷ x ∷ y ∷ []) hs
four_units c came hs a b d e u v x y ready pu pv px py is =
    let n = 4 - length (frames_of hs) in
    let size : length (frames_of hs) ≡ length hs = length-map hs (λ (h : Handed). h.frame) in
    fill c came n hs (a ∷ b ∷ d ∷ e ∷ []) (u ∷ v ∷ x ∷ y ∷ []) ready (pu, (pv, (px, (py, tt)))) is
    ∙ ap (λ (k : ℕ). map (λ (h : Handed). Some h) hs ++ replicate (4 - k) None) size

-- of a list of four
pub places_four : (c : ClientSettings) (came : List Arrival) (hs : List Handed) (places : List (Option ℕ)) (u v x y : Option Given) → length places ≡ 4
    → AreReady c came hs → PlaceGives c came (get_or places 0 None) u → PlaceGives c came (get_or places 1 None) v
    → PlaceGives c came (get_or places 2 None) x → PlaceGives c came (get_or places 3 None) y
    → places ≡ in_places (frames_of hs) → AreGiven (u ∷ v ∷ x ∷ y ∷ []) hs
places_four c came hs [] u v x y four ready pu pv px py is = absurd (omega arith)
places_four c came hs (a ∷ []) u v x y four ready pu pv px py is = absurd (omega arith)
places_four c came hs (a ∷ b ∷ []) u v x y four ready pu pv px py is = absurd (omega arith)
places_four c came hs (a ∷ b ∷ d ∷ []) u v x y four ready pu pv px py is = absurd (omega arith)
places_four c came hs (a ∷ b ∷ d ∷ e ∷ []) u v x y four ready pu pv px py is = four_units c came hs a b d e u v x y ready pu pv px py is
places_four c came hs (a ∷ b ∷ d ∷ e ∷ f ∷ more) u v x y four ready pu pv px py is = absurd (omega arith)

-- ---- what a caller does with them

none_given : (n : ℕ) (units : List (Option Given)) → map handed_at units ≡ replicate n None → given_frames units ≡ []
none_given n [] e = refl
none_given zero (u ∷ us) e = let no_unit : handed_at u ∷ map handed_at us ≡ [] = e in cc
none_given (suc n) (None ∷ us) e =
    let both : None ∷ map handed_at us ≡ None ∷ replicate n None = e in
    none_given n us cc
none_given (suc n) (Some u ∷ us) e =
    let both : Some (handed_as u) ∷ map handed_at us ≡ None ∷ replicate n None = e in
    cc

some_given : (n : ℕ) (hs : List Handed) (units : List (Option Given))
    → map handed_at units ≡ map (λ (h : Handed). Some h) hs ++ replicate n None → given_frames units ≡ hs
some_given n [] units e = none_given n units e
some_given n (h ∷ hs) [] e =
    let no_unit : [] ≡ Some h ∷ (map (λ (x : Handed). Some x) hs ++ replicate n None) = e in cc
some_given n (h ∷ hs) (None ∷ us) e =
    let both : None ∷ map handed_at us ≡ Some h ∷ (map (λ (x : Handed). Some x) hs ++ replicate n None) = e in cc
some_given n (h ∷ hs) (Some u ∷ us) e =
    let rest = map (λ (x : Handed). Some x) hs ++ replicate n None in
    let both : Some (handed_as u) ∷ map handed_at us ≡ Some h ∷ rest = e in
    let first : handed_as u ≡ h = cc in
    let others : map handed_at us ≡ rest = cc in
    ap (λ (x : Handed). x ∷ given_frames us) first ∙ ap (λ (l : List Handed). h ∷ l) (some_given n hs us others)

-- the frames given are those that are handed
pub given_are : (units : List (Option Given)) (hs : List Handed) → AreGiven units hs → given_frames units ≡ hs
given_are units hs e = some_given (4 - length hs) hs units e
