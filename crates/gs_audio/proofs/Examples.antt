-- What is played of some datagrams, computed.
use Rattle.std.proofs.Common.{◌≡◌, ℕ, List, [], ◌∷◌, length, inl, refl, lit<, lit≤}
use Rattle.std.specs.List.{All, Contains, slice_get}
use Rattle.std.specs.Prelude.{Option, Some, None}
use Rattle.std.proofs.lemmas.List.Elements.{All-from_recursion}
use Rattle.gs_gf256.specs.Field.{IsByte, product, remainder, polynomial_product, inverse, inverse_below, field_sum}
use Rattle.gs_poly.specs.Polynomial.{ratio_product}
use Rattle.gs_rtp.specs.Stream.{StreamSettings, AreSettingsWithinLimits}
use Rattle.gs_rtp.specs.AudioDatagrams.{audio_datagrams}
use Rattle.gs_audio.specs.Received.{received_audio}
use Rattle.gs_audio.specs.Played.{PlayedUnit, counting_shards, newly_played, played}
use Rattle.gs_audio.specs.PlayedLaws.{AreSessionUnits, AreOfUnits, IsUnitOf, PlayedUnitsWereSent}

-- units of one byte
tiny : StreamSettings
tiny = record { packet = 1024; percentage = 0; minimum = 0; fps = 60; duration = 5; audio = 1; ssrc = 1 }

-- nine units: two whole blocks, and one unit of a third
abbrev units : List (List ℕ)
units =
    (1 ∷ []) ∷ (0 ∷ []) ∷ (0 ∷ []) ∷ (0 ∷ []) ∷ (5 ∷ []) ∷ (6 ∷ []) ∷ (7 ∷ []) ∷ (8 ∷ []) ∷ (9 ∷ []) ∷ []

abbrev bytes_or_none : Option (List ℕ) → List ℕ
bytes_or_none None = []
bytes_or_none (Some bytes) = bytes

-- the datagram of this number, from 1
abbrev sent : ℕ → List ℕ
sent k = bytes_or_none (slice_get ([] ∷ audio_datagrams tiny units) k)

abbrev unit : ℕ → ℕ → PlayedUnit
unit number byte = record { number = number; bytes = byte ∷ [] }

first_datagram : sent 1 ≡ 0x80 ∷ 0x61 ∷ 0 ∷ 0 ∷ 0 ∷ 0 ∷ 0 ∷ 0 ∷ 0 ∷ 0 ∷ 0 ∷ 1 ∷ 1 ∷ []
unfolding tiny
first_datagram = refl

first_parity :
    sent 5
    ≡ 0x80 ∷ 0x7F ∷ 0 ∷ 4 ∷ 0 ∷ 0 ∷ 0 ∷ 0 ∷ 0 ∷ 0 ∷ 0 ∷ 1
    ∷ 0 ∷ 0x61 ∷ 0 ∷ 0 ∷ 0 ∷ 0 ∷ 0 ∷ 0 ∷ 0 ∷ 0 ∷ 0 ∷ 1 ∷ 0x77 ∷ []
unfolding tiny field_sum product remainder polynomial_product
first_parity = refl

-- both parity shards and two units give all four
restored : played tiny (sent 3 ∷ sent 2 ∷ sent 6 ∷ sent 5 ∷ []) ≡ unit 0 1 ∷ unit 1 0 ∷ unit 2 0 ∷ unit 3 0 ∷ []
unfolding tiny played newly_played received_audio counting_shards product remainder polynomial_product inverse inverse_below field_sum ratio_product
restored = refl

-- a fourth shard plays, and neither a repeat before it nor a fifth behind it does
repeated :
    played tiny (sent 5 ∷ sent 4 ∷ sent 3 ∷ sent 2 ∷ sent 2 ∷ sent 1 ∷ [])
    ≡ unit 0 1 ∷ unit 1 0 ∷ unit 2 0 ∷ unit 3 0 ∷ []
unfolding tiny played newly_played received_audio counting_shards
repeated = refl

not_yet : newly_played tiny (sent 2) (sent 3 ∷ sent 2 ∷ sent 1 ∷ []) ≡ []
unfolding tiny played newly_played received_audio counting_shards
not_yet = refl

-- a block that is left short plays the units that are held, in their order, whether in its time or of a parity shard
left_short : newly_played tiny (sent 11) (sent 2 ∷ sent 6 ∷ sent 4 ∷ []) ≡ unit 1 0 ∷ unit 3 0 ∷ []
unfolding tiny played newly_played received_audio counting_shards
left_short = refl

-- one of which parity alone is held plays nothing, and nothing of it plays later
left_without_units : played tiny (sent 4 ∷ sent 2 ∷ sent 1 ∷ sent 7 ∷ sent 6 ∷ sent 5 ∷ []) ≡ []
unfolding tiny played newly_played received_audio counting_shards
left_without_units = refl

-- nor does a block that was whole, when it is left, nor a last one that stays short
left_whole :
    played tiny (sent 13 ∷ sent 4 ∷ sent 3 ∷ sent 2 ∷ sent 1 ∷ [])
    ≡ unit 0 1 ∷ unit 1 0 ∷ unit 2 0 ∷ unit 3 0 ∷ []
unfolding tiny played newly_played received_audio counting_shards
left_whole = refl

-- a datagram of another session changes nothing
abbrev other : StreamSettings
other = record { packet = 1024; percentage = 0; minimum = 0; fps = 60; duration = 5; audio = 1; ssrc = 2 }

other_session : played other (sent 4 ∷ sent 3 ∷ sent 2 ∷ sent 1 ∷ []) ≡ []
unfolding tiny played newly_played received_audio counting_shards
other_session = refl

-- ---- the law's premises hold of them

within : AreSettingsWithinLimits tiny
unfolding tiny
within = record {
  packet_least = lit≤ tt;
  packet_greatest = lit≤ tt;
  percentage_greatest = lit≤ tt;
  minimum_greatest = lit≤ tt;
  fps_least = lit≤ tt;
  fps_greatest = lit≤ tt;
  duration_known = inl refl;
  audio_greatest = lit≤ tt;
  ssrc_least = lit≤ tt;
  ssrc_greatest = lit≤ tt;
}

units_are : AreSessionUnits tiny units
unfolding tiny
units_are = record {
  sizes = All-from_recursion (λ unit. length unit ≡ 1) units (refl, (refl, (refl, (refl, (refl, (refl, (refl, (refl, (refl, tt)))))))));
  bytes = All-from_recursion (All IsByte) units (
    byte 1 (lit< tt),
    (
      byte 0 (lit< tt),
      (
        byte 0 (lit< tt),
        (
          byte 0 (lit< tt),
          (
            byte 5 (lit< tt),
            (byte 6 (lit< tt), (byte 7 (lit< tt), (byte 8 (lit< tt), (byte 9 (lit< tt), tt)))),
          ),
        ),
      ),
    ),
  );
  few = lit≤ tt;
}
  where
    byte : (b : ℕ) → IsByte b → All IsByte (b ∷ [])
    byte b small = All-from_recursion IsByte (b ∷ []) (small, tt)

-- the two units and the parity by which two lost ones are restored
abbrev two_lost : List (List ℕ)
two_lost = sent 3 ∷ sent 2 ∷ sent 6 ∷ sent 5 ∷ []

two_lost_are : AreOfUnits tiny units two_lost
unfolding tiny product remainder polynomial_product field_sum
two_lost_are =
    All-from_recursion (Contains (audio_datagrams tiny units)) two_lost
    ((2, lit< tt, refl), ((1, lit< tt, refl), ((5, lit< tt, refl), ((4, lit< tt, refl), tt))))

played_are_units : PlayedUnitsWereSent → All (IsUnitOf units) (played tiny two_lost)
played_are_units law = law tiny units two_lost within units_are two_lost_are
