-- What is owed goes one after the other.
use Rattle.std.proofs.Common.{◌≡◌, ◌≤◌, ◌+◌, ℕ, zero, suc, Bool, true, false, List, [], ◌∷◌, length, take, drop, refl, sym, ap, subst, ◌∙◌, arith, inl, inr}
use Rattle.std.proofs.Common.{◌⊎◌}
use Rattle.std.specs.Prelude.{Result, Ok, Err}
use Rattle.std.specs.Result.{IsErr}
use Rattle.std.proofs.lemmas.Bool.{cond-true, cond-false, false≢true}
use Rattle.gs_bytes.specs.declared.out_of_memory.OutOfMemory.{OutOfMemory}
use Rattle.gs_enet.specs.declared.peer.Peer.{Peer}
use Rattle.gs_enet.specs.Record.{PeerRecord}
use Rattle.gs_enet.specs.Steps.{can_send}
use Rattle.gs_enet.specs.Standing.{IsPeerOf}
use Rattle.gs_client_core.specs.declared.asker.Owed.{Owed}
use Rattle.gs_client_core.specs.Owed.{request_channel, asked, all_asked, going, gone_by, SendsFront, HaveGone, HaveGoneBefore, SendsOwed}

-- one more of them was given
asked-more : (count : ℕ) (old : List Owed) (r : PeerRecord)
    → all_asked (take 1 (drop count old)) (all_asked (take count old) r) ≡ all_asked (take (suc count) old) r
asked-more zero old r = refl
asked-more (suc count) [] r = refl
asked-more (suc count) (owed ∷ rest) r = asked-more count rest (asked owed r)

pub drop-more : (count : ℕ) (old : List Owed) → drop 1 (drop count old) ≡ drop (suc count) old
drop-more zero old = refl
drop-more (suc count) [] = refl
drop-more (suc count) (owed ∷ rest) = drop-more count rest

-- how many go, where the first does
going-one : (r : PeerRecord) (xs : List Owed) → 1 ≤ length xs → can_send r request_channel ≡ true
    → going r xs ≡ suc (going (all_asked (take 1 xs) r) (drop 1 xs))
going-one r [] some can = absurd (omega arith)
going-one r (owed ∷ rest) some can = cond-true (can_send r request_channel) (suc (going (asked owed r) rest)) 0 can

going-none : (r : PeerRecord) (xs : List Owed) → (xs ≡ []) ⊎ (can_send r request_channel ≡ false) → going r xs ≡ 0
going-none r [] stop = refl
going-none r (owed ∷ rest) (inl none) = let no : owed ∷ rest ≡ [] = none in cc
going-none r (owed ∷ rest) (inr cannot) = cond-false (can_send r request_channel) (suc (going (asked owed r) rest)) 0 cannot

-- so many went so far
pub record HaveGoneOn (r : PeerRecord) (old : List Owed) (count : ℕ) (peer : Peer) : Type 0 where
  pub stands : IsPeerOf peer (all_asked (take count old) r)
  pub others : going r old ≡ count + going (all_asked (take count old) r) (drop count old)

pub gone-first : (r : PeerRecord) (old : List Owed) (peer : Peer) → IsPeerOf peer r → HaveGoneOn r old 0 peer
gone-first r old peer stands = record { stands = stands; others = omega arith }

pub gone-more : (r : PeerRecord) (old : List Owed) (count : ℕ) (before after : Peer) → HaveGoneOn r old count before → 1 ≤ length (drop count old)
    → can_send (all_asked (take count old) r) request_channel ≡ true
    → IsPeerOf after (all_asked (take 1 (drop count old)) (all_asked (take count old) r)) → HaveGoneOn r old (suc count) after
gone-more r old count before after gone some can stands =
    let so_far = all_asked (take count old) r in
    let more = asked-more count old r in
    let next =
    going-one so_far (drop count old) some can
    ∙ ap (λ (x : PeerRecord). suc (going x (drop 1 (drop count old)))) more
    ∙ ap (λ (l : List Owed). suc (going (all_asked (take (suc count) old) r) l)) (drop-more count old) in
    record {
      stands = subst (λ (x : PeerRecord). IsPeerOf after x) more stands;
      others = omega (arith, gone.others, next);
    }

pub gone-all : (r : PeerRecord) (old new : List Owed) (count : ℕ) (before after : Peer) → HaveGoneOn r old count before → new ≡ drop count old
    → (drop count old ≡ []) ⊎ (can_send (all_asked (take count old) r) request_channel ≡ false)
    → IsPeerOf after (all_asked (take count old) r) → (count ≡ going r old) × HaveGone r old new count after
gone-all r old new count before after gone rest stop stands =
    let none = going-none (all_asked (take count old) r) (drop count old) stop in
    (omega (arith, gone.others, none), record { rest = rest; stands = stands })

pub gone-before : (r : PeerRecord) (old new : List Owed) (count : ℕ) (before after : Peer) → HaveGoneOn r old count before → new ≡ drop count old
    → 1 ≤ length (drop count old) → can_send (all_asked (take count old) r) request_channel ≡ true
    → IsPeerOf after (all_asked (take count old) r) → HaveGoneBefore r old new after
gone-before r old new count before after gone rest some can stands =
    let one = going-one (all_asked (take count old) r) (drop count old) some can in
    record {
      count = count;
      fewer = omega (arith, gone.others, one);
      gone = record { rest = rest; stands = stands };
    }

-- ---- the first of the rest

-- it went
pub more-rest : (old xs new : List Owed) (count after : ℕ) (went : Bool) → went ≡ true → after ≡ suc count → xs ≡ drop count old
    → new ≡ drop (gone_by (Ok went)) xs → new ≡ drop after old
more-rest old xs new count after false bad next so_far rest = cc
more-rest old xs new count after true is next so_far rest =
    rest ∙ ap (λ (l : List Owed). drop 1 l) so_far ∙ drop-more count old ∙ ap (λ (k : ℕ). drop k old) (sym next)

pub more-gone : (r : PeerRecord) (old xs new : List Owed) (count after : ℕ) (peer later : Peer) (went : Bool) → went ≡ true → after ≡ suc count
    → xs ≡ drop count old → length new + gone_by (Ok went) ≡ length xs → HaveGoneOn r old count peer
    → SendsFront (all_asked (take count old) r) xs (Ok went) later → HaveGoneOn r old after later
more-gone r old xs new count after peer later false bad next so_far fewer gone sends = cc
more-gone r old xs new count after peer later true is next so_far fewer gone sends =
    let size : length xs ≡ length (drop count old) = ap (λ (l : List Owed). length l) so_far in
    let here = all_asked (take count old) r in
    let stands : IsPeerOf later (all_asked (take 1 (drop count old)) here) =
    subst (λ (l : List Owed). IsPeerOf later (all_asked (take 1 l) here)) so_far sends.1 in
    subst (λ (k : ℕ). HaveGoneOn r old k later) (sym next) (gone-more r old count peer later gone (omega (arith, size, fewer)) sends.0 stands)

-- none was left, or the side takes none
pub stopped : (r : PeerRecord) (old xs new : List Owed) (count : ℕ) (peer later : Peer) (went : Bool) → went ≡ false → xs ≡ drop count old
    → new ≡ drop (gone_by (Ok went)) xs → HaveGoneOn r old count peer
    → SendsFront (all_asked (take count old) r) xs (Ok went) later → (count ≡ going r old) × HaveGone r old new count later
stopped r old xs new count peer later true bad so_far rest gone sends = cc
stopped r old xs new count peer later false is so_far rest gone sends =
    let here = all_asked (take count old) r in
    let stop : (drop count old ≡ []) ⊎ (can_send here request_channel ≡ false) =
    subst (λ (l : List Owed). (l ≡ []) ⊎ (can_send here request_channel ≡ false)) so_far sends.0 in
    gone-all r old new count peer later gone (rest ∙ so_far) stop sends.1

-- there was no memory for it
pub failed : (r : PeerRecord) (old xs new : List Owed) (count : ℕ) (peer later : Peer) (refused : OutOfMemory) → xs ≡ drop count old
    → new ≡ drop (gone_by (Err refused)) xs → 1 ≤ length xs → HaveGoneOn r old count peer
    → SendsFront (all_asked (take count old) r) xs (Err refused) later → HaveGoneBefore r old new later
failed r old xs new count peer later refused so_far rest some gone sends =
    let size : length xs ≡ length (drop count old) = ap (λ (l : List Owed). length l) so_far in
    gone-before r old new count peer later gone (rest ∙ so_far) (omega (arith, size)) sends.0 sends.1

pub owed-failed : (r : PeerRecord) (old new : List Owed) (answer : Result ℕ OutOfMemory) (peer : Peer) → IsErr answer
    → HaveGoneBefore r old new peer → SendsOwed r old new answer peer
owed-failed r old new (Ok count) peer is gone = absurd (false≢true is)
owed-failed r old new (Err refused) peer is gone = gone

none_left : (n : ℕ) (old : List Owed) → length old ≤ n → drop n old ≡ []
none_left zero [] most = refl
none_left zero (owed ∷ rest) most = absurd (omega arith)
none_left (suc n) [] most = refl
none_left (suc n) (owed ∷ rest) most = none_left n rest (omega arith)

-- all went
pub finished : (r : PeerRecord) (old new : List Owed) (count all : ℕ) (peer : Peer) → all ≡ length old → all ≤ count → count ≤ all
    → new ≡ drop count old → HaveGoneOn r old count peer → (all ≡ going r old) × HaveGone r old new all peer
finished r old new count all peer size least most rest gone =
    let same : count ≡ all = omega arith in
    let none = none_left count old (omega arith) in
    subst (λ (k : ℕ). (k ≡ going r old) × HaveGone r old new k peer) same (gone-all r old new count peer peer gone rest (inl none) gone.stands)
