-- The definitions at small values, computed, and a restored frame by the laws.
use Rattle.std.proofs.Common.{◌≡◌, ◌≢◌, ◌<◌, ℕ, List, [], ◌∷◌, get_or, take, drop, map, replicate, Some, refl, arith, inl, inr, lit<, lit≤}
use Rattle.std.specs.Prelude.{codes}
use Rattle.std.specs.List.{All, AllPairs}
use Rattle.std.proofs.lemmas.Bool.Decides.{Decides-eqb}
use Rattle.std.proofs.lemmas.Cmp.{nat_eq_equiv}
use Rattle.std.proofs.lemmas.List.{length-replicate}
use Rattle.std.proofs.lemmas.List.Elements.{All-from_recursion, All-replicate}
use Rattle.std.proofs.lemmas.Map.Made.{AllPairs-from_IsDistinct, IsDistinct-from_count}
use Rattle.gs_gf256.specs.Field.{IsByte, product, inverse, inverse_below, polynomial_product, remainder, field_sum}
use Rattle.gs_poly.specs.Polynomial.{ratio_product}
use Rattle.gs_rs.specs.Shape.{differences}
use Rattle.gs_rtp.specs.Stream.{StreamSettings}
use Rattle.gs_frames.specs.Datagrams.{OutgoingFrame, unit_plan, frame_shards, frame_datagrams}
use Rattle.gs_frames.specs.Image.{frame_image, frame_of, packets, last_length}
use Rattle.gs_frames.specs.Plan.{fec_plan, BlockPlan}
use Rattle.gs_frames.specs.Client.{ClientSettings, HasWindow, datagrams}
use Rattle.gs_frames.specs.Received.{received, taken}
use Rattle.gs_frames.specs.Verdict.{counting}
use Rattle.gs_frames.specs.Complete.{complete}
use Rattle.gs_frames.specs.Settled.{settled}
use Rattle.gs_frames.specs.Handed.{handed, handed_through}
use Rattle.gs_frames.specs.Asks.{asks, asks_of}
use Rattle.gs_frames.specs.FrameLaws.{IsSent}
use Rattle.gs_frames.proofs.OneBlock.{IsOneBlock, one_block-complete, one_block-handed}

small : StreamSettings
small = record { packet = 1024; percentage = 0; minimum = 0; fps = 60; duration = 5; audio = 0; ssrc = 1 }

with_parity : StreamSettings
with_parity = record { packet = 1024; percentage = 20; minimum = 2; fps = 60; duration = 5; audio = 0; ssrc = 1 }

-- the client of a stream that keeps this many frames open
abbrev client : ℕ → StreamSettings → ClientSettings
client window stream = record { stream = stream; window = window }

-- an IDR frame with this unit: the count of datagrams before it, its index and its time
abbrev idr_frame : ℕ → ℕ → ℕ → List ℕ → OutgoingFrame
idr_frame count frame time unit = record { count = count; frame = frame; kind = 2; time = time; unit = unit }

abbrev plan : ℕ → ℕ → ℕ → BlockPlan
plan d p q = record { data_shards = d; parity_shards = p; percentage = q }

three_blocks : fec_plan 600 20 0 ≡ plan 200 40 20 ∷ plan 200 40 20 ∷ plan 200 40 20 ∷ []
unfolding fec_plan
three_blocks = refl

four_blocks : fec_plan 847 20 0 ≡ plan 212 43 20 ∷ plan 212 43 20 ∷ plan 212 43 20 ∷ plan 211 43 20 ∷ []
unfolding fec_plan
four_blocks = refl

full_blocks : fec_plan 848 20 0 ≡ plan 212 43 20 ∷ plan 212 43 20 ∷ plan 212 43 20 ∷ plan 212 43 20 ∷ []
unfolding fec_plan
full_blocks = refl

too_many : fec_plan 849 20 0 ≡ plan 849 0 0 ∷ []
unfolding fec_plan
too_many = refl

least_parity : fec_plan 1 20 2 ≡ plan 1 2 200 ∷ []
unfolding fec_plan
least_parity = refl

least_parity_of_three : fec_plan 3 20 2 ≡ plan 3 2 66 ∷ []
unfolding fec_plan
least_parity_of_three = refl

-- a unit that fills one payload, and one that takes a byte of another
full : (packets 1000 1008 ≡ 1) × (last_length 1000 1008 ≡ 0x03F0)
full = (refl, refl)

over : (packets 1001 1008 ≡ 2) × (last_length 1001 1008 ≡ 1)
over = (refl, refl)

empty_image : frame_image 2 [] 1008 ≡ 1 ∷ 0 ∷ 0 ∷ 2 ∷ 8 ∷ 0 ∷ 0 ∷ 0 ∷ replicate 1000 0
unfolding frame_image
empty_image = refl

abbrev sent : List (List ℕ)
sent = frame_datagrams small (idr_frame 0 1 0 (codes "ABC"))

abbrev datagram : List ℕ
datagram =
    0x90 ∷ 0 ∷ 0 ∷ 0 ∷ 0 ∷ 0 ∷ 0 ∷ 0 ∷ 0 ∷ 0 ∷ 0 ∷ 1 ∷ 0 ∷ 0 ∷ 0 ∷ 0
    ∷ 0 ∷ 0 ∷ 0 ∷ 0 ∷ 1 ∷ 0 ∷ 0 ∷ 0 ∷ 7 ∷ 0 ∷ 0x10 ∷ 0 ∷ 0 ∷ 0 ∷ 0x40 ∷ 0
    ∷ 1 ∷ 0 ∷ 0 ∷ 2 ∷ 0x0B ∷ 0 ∷ 0 ∷ 0 ∷ 0x41 ∷ 0x42 ∷ 0x43 ∷ replicate 997 0

one_packet : sent ≡ datagram ∷ []
unfolding small frame_datagrams frame_shards fec_plan frame_image
one_packet = refl

one_handed : handed (client 1 small) (datagrams (datagram ∷ [])) ≡ record { frame = 1; kind = 2; unit = codes "ABC" } ∷ []
unfolding small handed handed_through settled received counting complete frame_of
one_handed = refl

-- two frames of two packets each: what came first of the first frame alone is lost once the second begins,
-- and its other datagram is old by then
abbrev long : ℕ → List ℕ
long c = replicate 1500 c

abbrev first_two : List (List ℕ)
first_two = frame_datagrams small (idr_frame 0 1 0 (long 65))

abbrev next_two : List (List ℕ)
next_two = frame_datagrams small (idr_frame 2 2 17 (long 66))

abbrev at : ℕ → List (List ℕ) → List ℕ
at n datagrams = get_or datagrams n []

abbrev came : List (List ℕ)
came = at 1 next_two ∷ at 1 first_two ∷ at 0 next_two ∷ at 0 first_two ∷ []

moved_on : handed (client 1 small) (datagrams came) ≡ record { frame = 2; kind = 2; unit = long 66 } ∷ []
unfolding small frame_datagrams frame_shards fec_plan frame_image handed handed_through settled received counting complete frame_of
moved_on = refl

lost : asks (client 1 small) (datagrams came) ≡ record { first = 1; last = 1 } ∷ []
unfolding small frame_datagrams frame_shards fec_plan frame_image asks asks_of received counting complete frame_of
lost = refl

-- one packet with the least parity: the second parity shard alone restores it
one_of_three : handed (client 1 with_parity) (datagrams (at 2 (frame_datagrams with_parity (idr_frame 0 1 0 (codes "AB"))) ∷ []))
    ≡ record { frame = 1; kind = 2; unit = codes "AB" } ∷ []
unfolding with_parity frame_datagrams frame_shards fec_plan frame_image handed handed_through settled received counting complete frame_of
    product inverse inverse_below polynomial_product remainder field_sum ratio_product differences
one_of_three = refl

-- the FEC information of its first datagram: one data shard, number 0, and 200 percent
least_parity_written : take 4 (drop 28 (at 0 (frame_datagrams with_parity (idr_frame 0 1 0 (codes "AB"))))) ≡ 0x80 ∷ 0x0C ∷ 0x40 ∷ 0 ∷ []
unfolding with_parity frame_datagrams frame_shards fec_plan frame_image
least_parity_written = refl

-- a unit of 10,000 bytes at a fifth of parity: ten packets, the last of which has 936 bytes, and two parity shards
ten_packets : (packets 10000 1008 ≡ 10) × (last_length 10000 1008 ≡ 936)
ten_packets = (refl, refl)

ten_and_two : fec_plan 10 20 0 ≡ plan 10 2 20 ∷ []
unfolding fec_plan
ten_and_two = refl

-- nine distinct shards and one that repeats hand nothing, ten distinct ones hand the frame
fifth : StreamSettings
fifth = record { packet = 1024; percentage = 20; minimum = 0; fps = 60; duration = 5; audio = 0; ssrc = 1 }

abbrev numbered : StreamSettings → List ℕ → List ℕ → List (List ℕ)
numbered settings unit ks = map (λ k. at k (frame_datagrams settings (idr_frame 0 1 0 unit))) ks

abbrev nine : List ℕ
nine = 8 ∷ 7 ∷ 6 ∷ 5 ∷ 4 ∷ 3 ∷ 2 ∷ 1 ∷ 0 ∷ []

repeated : handed (client 1 fifth) (datagrams (numbered fifth (replicate 10000 67) (8 ∷ nine))) ≡ []
unfolding fifth frame_datagrams frame_shards fec_plan frame_image handed handed_through settled received counting complete
repeated = refl

ten_distinct : handed (client 1 fifth) (datagrams (numbered fifth (replicate 10000 67) (9 ∷ nine)))
    ≡ record { frame = 1; kind = 2; unit = replicate 10000 67 } ∷ []
unfolding fifth frame_datagrams frame_shards fec_plan frame_image handed handed_through settled received counting complete frame_of
ten_distinct = refl

-- The first parity shard in place of the tenth restores the frame. To compute it takes too many steps: this is by
-- the laws.
fifth_sent : IsSent fifth (idr_frame 0 1 0 (replicate 10000 67))
unfolding fifth
fifth_sent = record {
  limits = record {
    packet_least = lit≤ tt;
    packet_greatest = lit≤ tt;
    percentage_greatest = lit≤ tt;
    minimum_greatest = lit≤ tt;
    fps_least = lit≤ tt;
    fps_greatest = lit≤ tt;
    duration_known = inl refl;
    audio_greatest = lit≤ tt;
    ssrc_least = lit≤ tt;
    ssrc_greatest = lit≤ tt;
  };
  frame_least = lit≤ tt;
  frame_greatest = lit≤ tt;
  written = inr (inl refl);
  unit_greatest = omega (arith, length-replicate {A = ℕ} 10000 67);
  unit_bytes = All-replicate IsByte 10000 67 (lit< tt);
}

fifth_planned : unit_plan fifth (replicate 10000 67) ≡ plan 10 2 20 ∷ []
unfolding fifth fec_plan
fifth_planned = refl

ten_numbers : All (λ k. k < 12) (10 ∷ nine)
ten_numbers =
    All-from_recursion (λ k. k < 12) (10 ∷ nine)
    (lit< tt, (lit< tt, (lit< tt, (lit< tt, (lit< tt, (lit< tt, (lit< tt, (lit< tt, (lit< tt, (lit< tt, tt))))))))))

ten_apart : AllPairs (λ m n. m ≢ n) (10 ∷ nine)
ten_apart = AllPairs-from_IsDistinct Decides-eqb (10 ∷ nine) (IsDistinct-from_count nat_eq_equiv (10 ∷ nine) refl)

one_open : HasWindow (client 1 fifth)
one_open = record { least = lit≤ tt; greatest = lit≤ tt }

ten_with_parity : IsOneBlock fifth (idr_frame 0 1 0 (replicate 10000 67)) (plan 10 2 20) (10 ∷ nine)
ten_with_parity = record { sent = fifth_sent; planned = fifth_planned; within = ten_numbers; distinct = ten_apart; counted = refl }

restored_complete : complete (client 1 fifth) (taken (client 1 fifth) (datagrams (numbered fifth (replicate 10000 67) (10 ∷ nine)))) 1
    ≡ Some (record { kind = 2; unit = replicate 10000 67 })
restored_complete = one_block-complete (client 1 fifth) (idr_frame 0 1 0 (replicate 10000 67)) (plan 10 2 20) (10 ∷ nine) one_open ten_with_parity

restored_handed : handed (client 1 fifth) (datagrams (numbered fifth (replicate 10000 67) (10 ∷ nine)))
    ≡ record { frame = 1; kind = 2; unit = replicate 10000 67 } ∷ []
restored_handed =
    one_block-handed (client 1 fifth) (idr_frame 0 1 0 (replicate 10000 67)) (plan 10 2 20) (10 ∷ nine) refl refl (lit≤ tt) one_open ten_with_parity

-- the same ten and two with payloads of eight bytes, computed
narrow : StreamSettings
narrow = record { packet = 24; percentage = 20; minimum = 0; fps = 60; duration = 5; audio = 0; ssrc = 1 }

restored : handed (client 1 narrow) (datagrams (numbered narrow (replicate 72 67) (10 ∷ nine))) ≡ record { frame = 1; kind = 2; unit = replicate 72 67 } ∷ []
unfolding narrow frame_datagrams frame_shards fec_plan frame_image handed handed_through settled received counting complete frame_of
    product inverse inverse_below polynomial_product remainder field_sum ratio_product differences
restored = refl
