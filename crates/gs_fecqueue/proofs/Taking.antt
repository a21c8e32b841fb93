-- What a block's room holds with one more datagram of it.
use Rattle.std.proofs.Common.{◌≡◌, ◌≢◌, ◌<◌, ◌≤◌, ◌+◌, ◌⊎◌, ℕ, zero, suc, Bool, true, false, ◌&&◌, ◌||◌, not, cond, List, [], ◌∷◌, length, get_or, set, Option}
use Rattle.std.proofs.Common.{Some, None, refl, sym, ap, subst, ◌∙◌, arith, inl, inr}
use Rattle.std.specs.Prelude.{◌==◌, nat_le, if◌then◌else◌}
use Rattle.std.specs.List.{All, AllPairs, list_any}
use Rattle.std.proofs.lemmas.Bool.{cases_eq, cases_Bool, cond-true, cond-false, eq-eqb, ne_eqb, eqb-true, lt-leb, and_from, and_parts, or_left, not-false}
use Rattle.std.proofs.lemmas.Bool.{not_from_true}
use Rattle.std.proofs.lemmas.List.{get_or-set_same, get_or-set_other}
use Rattle.std.proofs.lemmas.List.Elements.{All-nil, All-cons}
use Rattle.std.proofs.lemmas.List.Kept.{AllPairs-cons}
use Rattle.gs_rs.specs.Codeword.{shard_of}
use Rattle.gs_rtp.specs.Stream.{StreamSettings}
use Rattle.gs_rtp.specs.declared.video.VideoHead.{VideoHead}
use Rattle.gs_rtp.specs.Video.{IsVideoHead, parity_count}
use Rattle.gs_frames.specs.declared.verdict.Added.{Added}
use Rattle.gs_frames.specs.declared.verdict.Added.TheVariants.{Foreign, Repeat, Spare, Added as Held, BlockWhole}
use Rattle.gs_frames.specs.declared.verdict.Why.TheVariants.{Shape as OtherShape}
use Rattle.gs_frames.specs.declared.verdict.Shape.{Shape}
use Rattle.gs_frames.specs.Shards.{payload_of}
use Rattle.gs_frames.specs.Received.{Received}
use Rattle.gs_frames.specs.Verdict.{shape_came, first_or, is_same_shape, has_all, is_counting}
use Rattle.gs_frames.specs.Complete.{joined_payloads}
use Rattle.gs_fecqueue.specs.declared.block.Block.{Block}
use Rattle.gs_fecqueue.specs.Places.{shard_total, kept_payload, is_shard_held, AreShards, HasPlaced}
use Rattle.gs_fecqueue.specs.Holding.{data_of_block, IsRoomOf, ArePlaced, IsBlockReady, IsJoined, HoldsShards, HoldsBlock, Brings}
use Rattle.gs_fecqueue.specs.Steps.{HasCountsOf, IsStarted, IsPut, KeepsHeld}
use Rattle.gs_fecqueue.specs.BlockVerdict.{shape_in, made_block_whole, block_verdict, held_behind, first_behind}
use Rattle.gs_fecqueue.proofs.Counted.{apart-among}

-- ---- one shard joins those that are held

pub join-are : (s : StreamSettings) (b0 : Block) (held : List Received) (first r : Received) (index : ℕ) (payload : List ℕ)
    → IsBlockReady s b0 held first → IsJoined s held first r index payload → AreShards (r ∷ held) first
join-are s b0 held first r index payload ready joins =
    let are = ready.are in
    let Missing : ℕ → Type 0 = λ i. is_shard_held held i ≡ false in
    let within : r.head.index < shard_total first.head = omega (arith, joins.index_is, joins.within) in
    record {
      grammar = are.grammar;
      enough = omega (arith, ready.few);
      indices = All-cons (λ t. t.head.index < shard_total first.head) r held within are.indices;
      distinct = AllPairs-cons (λ t u. t.head.index ≢ u.head.index) r held
          (apart-among r.head.index held (subst Missing (sym joins.index_is) joins.missing)) are.distinct;
    }

pub join-room : (s : StreamSettings) (b0 b1 : Block) (held : List Received) (first r : Received) (index : ℕ) (payload : List ℕ)
    → IsBlockReady s b0 held first → IsJoined s held first r index payload → IsPut b0 b1 index payload → index < length b0.present.items
    → IsRoomOf b1 (r ∷ held) first
join-room s b0 b1 held first r index payload ready joins put there =
    let room = ready.room in
    record {
      shards = put.counts.shards ∙ room.shards;
      percentage = put.counts.percentage ∙ room.percentage;
      total = put.counts.total ∙ room.total;
      count = omega (arith, put.count, room.count);
      flags = λ i h. ap (λ (l : List Bool). get_or l i false) put.flags ∙ elim (cases_eq i index) [
        | inl this ↦
            ap (λ (j : ℕ). get_or (set b0.present.items index true) j false) this
            ∙ get_or-set_same b0.present.items index true false there
            ∙ sym (or_left (r.head.index == i) (is_shard_held held i) (eq-eqb r.head.index i (joins.index_is ∙ sym this)))
        | inr other ↦
            get_or-set_other b0.present.items index i true false other
            ∙ room.flags i h
            ∙ sym (ap (λ (b : Bool). b || is_shard_held held i) (ne_eqb r.head.index i (λ e. other (sym e ∙ joins.index_is))))
      ];
    }

pub join-placed : (s : StreamSettings) (b0 b1 : Block) (held : List Received) (first r : Received) (index : ℕ) (payload : List ℕ)
    → IsBlockReady s b0 held first → IsJoined s held first r index payload → IsPut b0 b1 index payload
    → ArePlaced s b1 (r ∷ held)
join-placed s b0 b1 held first r index payload ready joins put =
    let size = payload_of s in
    let At : ℕ → List ℕ → ℕ → List ℕ = λ n l i. shard_of n l i in
    let whole : length payload ≡ size = joins.size in
    let Missing : ℕ → Type 0 = λ i. is_shard_held held i ≡ false in
    let apart = apart-among r.head.index held (subst Missing (sym joins.index_is) joins.missing) in
    let here : At size b1.bytes.items r.head.index ≡ kept_payload r =
    ap (At size b1.bytes.items) joins.index_is
    ∙ ap (λ (n : ℕ). At n b1.bytes.items index) (sym whole) ∙ put.itself ∙ sym joins.payload_is in
    All-cons (λ t. At size b1.bytes.items t.head.index ≡ kept_payload t) r held here (λ k d h.
    let t = get_or held k d in
    let other : t.head.index ≢ index = λ e. apart k d h (joins.index_is ∙ sym e) in
    ap (λ (n : ℕ). At n b1.bytes.items t.head.index) (sym whole)
    ∙ put.others t.head.index other
    ∙ ap (λ (n : ℕ). At n b0.bytes.items t.head.index) whole
    ∙ ready.placed k d h)

-- the room whose bytes alone changed
pub kept-room : (b1 b2 : Block) (held : List Received) (first : Received) → IsRoomOf b1 held first → KeepsHeld b1 b2 → IsRoomOf b2 held first
kept-room b1 b2 held first room keeps = record {
  shards = keeps.counts.shards ∙ room.shards;
  percentage = keeps.counts.percentage ∙ room.percentage;
  total = keeps.counts.total ∙ room.total;
  count = keeps.count ∙ room.count;
  flags = λ i h. ap (λ (l : List Bool). get_or l i false) keeps.flags ∙ room.flags i h;
}

-- ---- the verdict on a shard that counts

pub same-shape : (a b : Shape) → a ≡ b → is_same_shape a b ≡ true
same-shape a b e =
    and_from (a.last_block == b.last_block && a.shards == b.shards) (a.percentage == b.percentage)
    (and_from (a.last_block == b.last_block) (a.shards == b.shards)
    (eq-eqb a.last_block b.last_block (ap (λ (x : Shape). x.last_block) e)) (eq-eqb a.shards b.shards (ap (λ (x : Shape). x.shards) e)))
    (eq-eqb a.percentage b.percentage (ap (λ (x : Shape). x.percentage) e))

pub verdict-counts : (last : ℕ) (r : Received) (held : List Received) (first : Option Received)
    → shape_in last r first ≡ shape_came r → is_shard_held held r.head.index ≡ false → length held < r.head.shards
    → block_verdict last r held first ≡ made_block_whole (has_all (r ∷ held) (Some (first_or r first)))
verdict-counts last r held first same missing few =
    let same_is : not (is_same_shape (shape_in last r first) (shape_came r)) ≡ false =
    not_from_true _ (same-shape (shape_in last r first) (shape_came r) same) in
    let made = made_block_whole (has_all (r ∷ held) (Some (first_or r first))) in
    let spare : Added = if nat_le r.head.shards (length held) then Spare else made in
    cond-false (not (is_same_shape (shape_in last r first) (shape_came r))) (Foreign (OtherShape (shape_in last r first) (shape_came r)))
    (if is_shard_held held r.head.index then Repeat else spare) same_is
    ∙ cond-false (is_shard_held held r.head.index) Repeat spare missing
    ∙ cond-false (nat_le r.head.shards (length held)) Spare made (lt-leb r.head.shards (length held) few)

counted-made : (b : Bool) → is_counting (made_block_whole b) ≡ true
counted-made true = refl
counted-made false = refl

-- ---- a datagram that counts

-- what holding one more shard gives
abbrev pub HoldGives : Block → Block → ℕ → List ℕ → Added → Type 0
HoldGives before after index payload result =
    (s : StreamSettings) (held : List Received) (first r : Received)
    → IsBlockReady s before held first → IsJoined s held first r index payload
    → (result ≡ made_block_whole (length (r ∷ held) == first.head.shards)) × HoldsShards s after (r ∷ held) first

-- what is to be shown
abbrev pub TakeGives : StreamSettings → Block → ℕ → List Received → Option Received → Received → Added → Type 0
TakeGives s after last held first r result =
    (result ≡ block_verdict last r held first)
    × HoldsBlock s after (held_behind (is_counting result) r held) (first_behind (is_counting result) r first)

gives : (s : StreamSettings) (after : Block) (last : ℕ) (held : List Received) (first : Option Received) (r : Received) (result : Added)
    → shape_in last r first ≡ shape_came r → is_shard_held held r.head.index ≡ false → length held < r.head.shards
    → (first_or r first).head.shards ≡ r.head.shards
    → result ≡ made_block_whole (length (r ∷ held) == (first_or r first).head.shards) → HoldsShards s after (r ∷ held) (first_or r first)
    → TakeGives s after last held first r result
gives s after last held first r result same missing few shards is holds =
    let counted : is_counting result ≡ true = ap is_counting is ∙ counted-made (length (r ∷ held) == (first_or r first).head.shards) in
    let Holds : Bool → Type 0 = λ b. HoldsBlock s after (held_behind b r held) (first_behind b r first) in
    (is ∙ sym (verdict-counts last r held first same missing few), subst Holds (sym counted) holds)

-- the first of its block
started-ready : (s : StreamSettings) (b1 : Block) (head : VideoHead) (payload : List ℕ) (r : Received) → IsVideoHead head → IsStarted b1 head
    → Brings s head payload r → IsBlockReady s b1 [] r
started-ready s b1 head payload r grammar started brings =
    let e = brings.head_is in
    let IsHead : VideoHead → Type 0 = IsVideoHead in
    let is_head : IsVideoHead r.head = subst IsHead (sym e) grammar in
    record {
      are = record {
        grammar = is_head;
        enough = omega arith;
        indices = All-nil (λ t. t.head.index < shard_total r.head);
        distinct = λ i j d less h. absurd (omega arith);
      };
      room = record {
        shards = started.shards ∙ ap (λ (h : VideoHead). h.shards) (sym e);
        percentage = started.percentage ∙ ap (λ (h : VideoHead). h.percentage) (sym e);
        total = started.total ∙ ap shard_total (sym e);
        count = started.count;
        flags = λ i h. started.flags i (omega (arith, ap shard_total e));
      };
      few = omega (arith, is_head.shards_least);
      placed = All-nil (λ t. shard_of (payload_of s) b1.bytes.items t.head.index ≡ kept_payload t);
    }

pub taken-first : (s : StreamSettings) (b0 b1 b2 : Block) (head : VideoHead) (last : ℕ) (payload : List ℕ) (result : Added) (held : List Received)
    (first : Option Received) (r : Received)
    → IsVideoHead head → b0.held ≡ 0 → last ≡ head.last_block → IsStarted b1 head → HoldsBlock s b0 held first → Brings s head payload r
    → HoldGives b1 b2 head.index payload result → TakeGives s b2 last held first r result
taken-first s b0 b1 b2 head last payload result held (Some f) r grammar none last_is started holds brings hold =
    absurd (omega (arith, holds.some, holds.room.count))
taken-first s b0 b1 b2 head last payload result held None r grammar none last_is started holds brings hold =
    let e = brings.head_is in
    let ready = started-ready s b1 head payload r grammar started brings in
    let at : (h : VideoHead) → Type 0 = λ h. IsVideoHead h in
    let is_head = ready.are.grammar in
    let joins : IsJoined s [] r r head.index payload = record {
      index_is = ap (λ (h : VideoHead). h.index) e;
      within = omega (arith, is_head.index, ap (λ (h : VideoHead). h.index) e);
      missing = refl;
      payload_is = brings.payload_is;
      size = brings.size;
    } in
    let made = hold s [] r r ready joins in
    let Gives : List Received → Type 0 = λ l. TakeGives s b2 last l None r result in
    let same : shape_in last r None ≡ shape_came r =
    ap (λ (n : ℕ). shape_in n r None) (last_is ∙ ap (λ (h : VideoHead). h.last_block) (sym e)) in
    subst Gives (sym holds.0)
    (gives s b2 last [] None r result same refl (omega (arith, is_head.shards_least)) refl made.0 made.1)

-- what is said of a block by its room, and by a head
abbrev pub said_by_room : ℕ → Block → Shape
said_by_room last b = record { last_block = last; shards = b.shards; percentage = b.percentage }

abbrev pub said_by_head : VideoHead → Shape
said_by_head h = record { last_block = h.last_block; shards = h.shards; percentage = h.percentage }

abbrev pub said : ℕ → ℕ → ℕ → Shape
said last shards percentage = record { last_block = last; shards = shards; percentage = percentage }

-- one more of it
-- what a derived comparison of them says
pub shapes-equal : (a b : Shape) → false ≡ not (a.last_block == b.last_block && (a.shards == b.shards && a.percentage == b.percentage)) → a ≡ b
shapes-equal a b e =
    let same = not-false (a.last_block == b.last_block && (a.shards == b.shards && a.percentage == b.percentage)) (sym e) in
    let parts = and_parts (a.last_block == b.last_block) (a.shards == b.shards && a.percentage == b.percentage) same in
    let rest = and_parts (a.shards == b.shards) (a.percentage == b.percentage) parts.1 in
    let e1 = eqb-true a.last_block b.last_block parts.0 in
    let e2 = eqb-true a.shards b.shards rest.0 in
    let e3 = eqb-true a.percentage b.percentage rest.1 in
    ap (λ (n : ℕ). said n a.shards a.percentage) e1
    ∙ ap (λ (n : ℕ). said b.last_block n a.percentage) e2
    ∙ ap (λ (n : ℕ). said b.last_block b.shards n) e3

-- a datagram that says the same of a block as the first one
record SaysSame (last : ℕ) (head : VideoHead) (f r : Received) : Type 0 where
  shapes : shape_in last r (Some f) ≡ shape_came r
  shards : f.head.shards ≡ r.head.shards
  index : r.head.index ≡ head.index
  within : head.index < shard_total f.head

says-same : (s : StreamSettings) (b0 : Block) (head : VideoHead) (last : ℕ) (payload : List ℕ) (held : List Received) (f r : Received)
    → IsVideoHead head → said_by_room last b0 ≡ said_by_head head → IsRoomOf b0 held f → Brings s head payload r → SaysSame last head f r
says-same s b0 head last payload held f r grammar same room brings =
    let e = brings.head_is in
    let shards : f.head.shards ≡ r.head.shards =
    sym room.shards ∙ ap (λ (x : Shape). x.shards) same ∙ ap (λ (h : VideoHead). h.shards) (sym e) in
    let percentage : f.head.percentage ≡ r.head.percentage =
    sym room.percentage ∙ ap (λ (x : Shape). x.percentage) same ∙ ap (λ (h : VideoHead). h.percentage) (sym e) in
    let last_is : last ≡ r.head.last_block = ap (λ (x : Shape). x.last_block) same ∙ ap (λ (h : VideoHead). h.last_block) (sym e) in
    let totals : shard_total f.head ≡ shard_total head =
    ap (λ (n : ℕ). n + parity_count n f.head.percentage) (shards ∙ ap (λ (h : VideoHead). h.shards) e)
    ∙ ap (λ (q : ℕ). head.shards + parity_count head.shards q) (percentage ∙ ap (λ (h : VideoHead). h.percentage) e) in
    record {
      shapes =
          ap (λ (n : ℕ). said n f.head.shards f.head.percentage) last_is
          ∙ ap (λ (n : ℕ). said r.head.last_block n f.head.percentage) shards
          ∙ ap (λ (n : ℕ). said r.head.last_block r.head.shards n) percentage;
      shards = shards;
      index = ap (λ (h : VideoHead). h.index) e;
      within = omega (arith, grammar.index, totals);
    }

pub taken-more : (s : StreamSettings) (b0 b2 : Block) (head : VideoHead) (last : ℕ) (payload : List ℕ) (result : Added) (held : List Received)
    (first : Option Received) (r : Received)
    → IsVideoHead head → b0.held ≢ 0 → said_by_room last b0 ≡ said_by_head head
    → get_or b0.present.items head.index false ≡ false → b0.held < b0.shards → HoldsBlock s b0 held first → Brings s head payload r
    → HoldGives b0 b2 head.index payload result → TakeGives s b2 last held first r result
taken-more s b0 b2 head last payload result held None r grammar some same missing few holds brings hold = absurd (some holds.1)
taken-more s b0 b2 head last payload result held (Some f) r grammar some same missing few holds brings hold =
    let room = holds.room in
    let says = says-same s b0 head last payload held f r grammar same room brings in
    let not_there : is_shard_held held head.index ≡ false = sym (room.flags head.index says.within) ∙ missing in
    let less : length held < f.head.shards = omega (arith, room.count, room.shards) in
    let ready : IsBlockReady s b0 held f = record { are = holds.are; room = room; few = less; placed = holds.placed less } in
    let joins : IsJoined s held f r head.index payload = record {
      index_is = says.index;
      within = says.within;
      missing = not_there;
      payload_is = brings.payload_is;
      size = brings.size;
    } in
    let made = hold s held f r ready joins in
    gives s b2 last held (Some f) r result says.shapes (ap (is_shard_held held) says.index ∙ not_there) (omega (arith, says.shards)) says.shards made.0 made.1

-- one that is held
pub taken-again : (s : StreamSettings) (b0 : Block) (head : VideoHead) (last : ℕ) (payload : List ℕ) (held : List Received)
    (first : Option Received) (r : Received)
    → IsVideoHead head → b0.held ≢ 0 → said_by_room last b0 ≡ said_by_head head
    → get_or b0.present.items head.index false ≡ true → HoldsBlock s b0 held first → Brings s head payload r
    → Repeat ≡ block_verdict last r held first
taken-again s b0 head last payload held None r grammar some same there holds brings = absurd (some holds.1)
taken-again s b0 head last payload held (Some f) r grammar some same there holds brings =
    let says = says-same s b0 head last payload held f r grammar same holds.room brings in
    let among : is_shard_held held r.head.index ≡ true = ap (is_shard_held held) says.index ∙ sym (holds.room.flags head.index says.within) ∙ there in
    let same_is : not (is_same_shape (shape_in last r (Some f)) (shape_came r)) ≡ false =
    not_from_true _ (same-shape (shape_in last r (Some f)) (shape_came r) says.shapes) in
    let made = made_block_whole (has_all (r ∷ held) (Some f)) in
    let spare : Added = if nat_le r.head.shards (length held) then Spare else made in
    sym (cond-false (not (is_same_shape (shape_in last r (Some f)) (shape_came r))) (Foreign (OtherShape (shape_in last r (Some f)) (shape_came r)))
    (if is_shard_held held r.head.index then Repeat else spare) same_is
    ∙ cond-true (is_shard_held held r.head.index) Repeat spare among)
