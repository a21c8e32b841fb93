-- A list of bytes has one reading: one datagram, or one place of a fault.
use Rattle.std.proofs.Common.{cond, suc, get_or, le-leb, ltb, eqb, ◌≡◌, ◌≢◌, ℕ, ◌+◌, ◌*◌, ◌/◌, ◌%◌, ◌<◌, ◌≤◌, Bool, true, false, List, [], ◌∷◌, ◌++◌, length}
use Rattle.std.proofs.Common.{drop, Option, Some, None, refl, sym, ap, ◌∙◌, append_assoc, arith, length-append}
use Rattle.std.specs.Prelude.{is_some, MatchBool, nat_le, ◌==◌, ◌||◌}
use Rattle.std.proofs.lemmas.Bool.{ne_eqb, lt-leb, le-ltb}
use Rattle.std.proofs.lemmas.List.{drop_at, append-nil, append_cancel_right}
use Rattle.byteorder.specs.Numbers.{big_number-reads_back}
use Rattle.gs_enet_wire.specs.declared.command.Command.{Command}
use Rattle.gs_enet_wire.specs.declared.datagram.Datagram.{Datagram}
use Rattle.gs_enet_wire.specs.Grammar.{IsCommand, AreCommands, BeginsNoCommand, after_first, WireField, field_bytes, fields_bytes, u16, asking, header_word}
use Rattle.gs_enet_wire.specs.Grammar.{sent_field, header, HasHeader, most_on_link, SpellsDatagram, is_compressed, is_timed, datagram_header_length, StopsAt}
use Rattle.gs_enet_wire.specs.Grammar.{IsFaultAt}
use Rattle.gs_bytes.specs.Field.{big_from}
use Rattle.gs_enet_wire.proofs.FieldLemmas.{widths, values, fields_same}
use Rattle.gs_enet_wire.proofs.OneCommand.{command_same, asking_same}

-- no bytes are no command
command_some : (t : Bool) (a : List ℕ) (c : Command) (x : List ℕ) → IsCommand t a c → [] ≡ a ++ x → ⊥
command_some t a c x p e =
    let cells : [] ≡ p.first ∷ (after_first c ++ x) = e ∙ ap (λ (l : List ℕ). l ++ x) p.spelled in
    cc

pub none_begins : (t : Bool) → BeginsNoCommand t []
none_begins t c front rest e p = command_some t front c rest p e

-- the commands up to where none begins are determined, and so is what is left
pub walk_same : (t : Bool) (cs ds : List Command) (a b x y : List ℕ) → AreCommands t a cs → AreCommands t b ds
    → a ++ x ≡ b ++ y → BeginsNoCommand t x → BeginsNoCommand t y → (cs ≡ ds) × (a ≡ b) × (x ≡ y)
walk_same t [] [] a b x y p q e none none' =
    let rest : x ≡ y = sym (ap (λ (l : List ℕ). l ++ x) p) ∙ e ∙ ap (λ (l : List ℕ). l ++ y) q in
    (refl, p ∙ sym q, rest)
walk_same t [] (d ∷ ds) a b x y p q e none none' =
    let begins : x ≡ q.0 ++ (q.1 ++ y) =
    sym (ap (λ (l : List ℕ). l ++ x) p) ∙ e ∙ ap (λ (l : List ℕ). l ++ y) q.2 ∙ append_assoc q.0 q.1 y in
    absurd (none d q.0 (q.1 ++ y) begins q.3)
walk_same t (c ∷ cs) [] a b x y p q e none none' =
    let begins : y ≡ p.0 ++ (p.1 ++ x) =
    sym (ap (λ (l : List ℕ). l ++ y) q) ∙ sym e ∙ ap (λ (l : List ℕ). l ++ x) p.2 ∙ append_assoc p.0 p.1 x in
    absurd (none' c p.0 (p.1 ++ x) begins p.3)
walk_same t (c ∷ cs) (d ∷ ds) a b x y p q e none none' =
    let regrouped : p.0 ++ (p.1 ++ x) ≡ q.0 ++ (q.1 ++ y) =
    sym (append_assoc p.0 p.1 x) ∙ sym (ap (λ (l : List ℕ). l ++ x) p.2) ∙ e ∙ ap (λ (l : List ℕ). l ++ y) q.2 ∙ append_assoc q.0 q.1 y in
    let one = command_same t p.0 q.0 c d (p.1 ++ x) (q.1 ++ y) p.3 q.3 regrouped in
    let more = walk_same t cs ds p.1 q.1 x y p.4 q.4 one.1 none none' in
    let cells : c ∷ cs ≡ d ∷ ds = cc (one.0, more.0) in
    let whole : a ++ y ≡ b ++ y = ap (λ (l : List ℕ). a ++ l) (sym more.2) ∙ e in
    (cells, append_cancel_right a b y whole, more.2)

-- ---- headers

asking_le : (b : Bool) → asking b ≤ 1
asking_le true = omega arith
asking_le false = omega arith

word_small : (d : Datagram) → HasHeader d → header_word d < 65536
word_small d h = omega (arith, h.peer, h.session, asking_le (is_some d.sent))

-- the first two bytes of a spelled datagram
pub word_is : (d : Datagram) (body : List ℕ) → HasHeader d → big_from 0 2 (fields_bytes (header d) ++ body) ≡ header_word d
word_is d body h =
    let tail = fields_bytes (sent_field d.sent) in
    ap (big_from 0 2) (append_assoc (field_bytes (u16 (header_word d))) tail body) ∙ big_number-reads_back 2 (header_word d) (tail ++ body) (word_small d h)

not_compressed : (d : Datagram) (w : ℕ) → HasHeader d → w ≡ header_word d → (w / 16384 % 2 == 1) ≡ false
not_compressed d w h e =
    let small = asking_le (is_some d.sent) in
    let bit : w / 16384 % 2 ≡ 0 = omega (arith, h.peer, h.session) in
    rw bit refl

timed_by : (a : Bool) (low w : ℕ) → low < 32768 → w ≡ low + 32768 * asking a → nat_le 32768 w ≡ a
timed_by true low w small e = le-leb _ _ (omega arith)
timed_by false low w small e = lt-leb _ _ (omega arith)

timed_is : (d : Datagram) (w : ℕ) → HasHeader d → w ≡ header_word d → nat_le 32768 w ≡ is_some d.sent
timed_is d w h e = timed_by (is_some d.sent) (d.peer + 4096 * d.session) w (omega (arith, h.peer, h.session)) e

length-header : (w : ℕ) (o : Option ℕ) → length (fields_bytes (u16 w ∷ sent_field o)) ≡ cond (is_some o) 4 2
length-header w None = refl
length-header w (Some t) = refl

-- ---- one reading

-- a cause that holds for one place holds for both
stage_both : (b : Bool) (v p q : ℕ) (Q : ℕ → Type 0) → (Q p → Q q → p ≡ q) → MatchBool b (p ≡ v) (Q p) → MatchBool b (q ≡ v) (Q q) → p ≡ q
stage_both true v p q Q later h h' = h ∙ sym h'
stage_both false v p q Q later h h' = later h h'

-- the body of a spelled datagram isn't empty
body_some : (t : Bool) (body : List ℕ) (cs : List Command) → cs ≢ [] → AreCommands t body cs → 0 < length body
body_some t body [] some p = absurd (some refl)
body_some t body (c ∷ cs) some p =
    let one = p.3 in
    let len : length body ≡ length p.0 + length p.1 = ap length p.2 ∙ length-append p.0 p.1 in
    let first : length p.0 ≡ suc (length (after_first c)) = ap length one.spelled in
    omega arith

-- what a whole header says
pub record Headed (bytes body : List ℕ) (d : Datagram) : Type 0 where
  pub timed : is_timed bytes ≡ is_some d.sent
  pub header_len : datagram_header_length bytes ≡ length (fields_bytes (header d))
  pub whole : (ltb (length bytes) 2 || is_compressed bytes) ≡ false
  pub time : ltb (length bytes) (datagram_header_length bytes) ≡ false
  pub len : length bytes ≡ datagram_header_length bytes + length body
  pub body_is : drop (datagram_header_length bytes) bytes ≡ body

pub headed : (bytes body : List ℕ) (d : Datagram) → HasHeader d → bytes ≡ fields_bytes (header d) ++ body → Headed bytes body d
headed bytes body d h spelled =
    let word : big_from 0 2 bytes ≡ header_word d = ap (big_from 0 2) spelled ∙ word_is d body h in
    let is_timed_so : is_timed bytes ≡ is_some d.sent = timed_is d (big_from 0 2 bytes) h word in
    let sized : datagram_header_length bytes ≡ length (fields_bytes (header d)) =
    ap (λ (b : Bool). cond b 4 2) is_timed_so ∙ sym (length-header (header_word d) d.sent) in
    let long : length bytes ≡ length (fields_bytes (header d)) + length body =
    ap length spelled ∙ length-append (fields_bytes (header d)) body in
    let two : 2 ≤ length (fields_bytes (header d)) = omega (arith, length-append (field_bytes (u16 (header_word d))) (fields_bytes (sent_field d.sent))) in
    let enough : ltb (length bytes) 2 ≡ false = le-ltb _ _ (omega arith) in
    let plain : is_compressed bytes ≡ false = not_compressed d (big_from 0 2 bytes) h word in
    record {
      timed = is_timed_so;
      header_len = sized;
      whole = rw (enough, plain) refl;
      time = le-ltb _ _ (omega arith);
      len = omega arith;
      body_is = ap (drop (datagram_header_length bytes)) spelled ∙ drop_at (fields_bytes (header d)) body (datagram_header_length bytes) (sym sized);
    }

-- what is in the grammar has no fault
pub not_both : (bytes : List ℕ) (d : Datagram) (place : ℕ) → SpellsDatagram bytes d → IsFaultAt bytes place → ⊥
not_both bytes d place s f =
    let h = headed bytes s.body d s.has_header s.spelled in
    let some = body_some (is_some d.sent) s.body d.commands s.some s.commands in
    let first : ltb most_on_link (length bytes) ≡ false = le-ltb _ _ s.short in
    let second : (ltb (length bytes) 2 || is_compressed bytes) ≡ false = h.whole in
    let third : ltb (length bytes) (datagram_header_length bytes) ≡ false = h.time in
    let fourth : eqb (length bytes) (datagram_header_length bytes) ≡ false = ne_eqb _ _ (omega arith) in
    let stop : StopsAt (is_timed bytes) (datagram_header_length bytes) (drop (datagram_header_length bytes) bytes) place = rw
    (first, second, third, fourth) at f in
    let at_body : StopsAt (is_some d.sent) (datagram_header_length bytes) s.body place = rw (← h.timed, ← h.body_is) stop in
    let walked = walk_same (is_some d.sent) d.commands at_body.commands s.body at_body.front [] at_body.rest s.commands at_body.before
    (append-nil s.body ∙ at_body.parts) (none_begins (is_some d.sent)) at_body.none in
    at_body.more (sym walked.2)

stops_same : (t : Bool) (start : ℕ) (body : List ℕ) (p q : ℕ) → StopsAt t start body p → StopsAt t start body q → p ≡ q
stops_same t start body p q s s' =
    let walked = walk_same t s.commands s'.commands s.front s'.front s.rest s'.rest s.before s'.before (sym s.parts ∙ s'.parts) s.none s'.none in
    s.at ∙ ap (λ (l : List ℕ). start + length l) walked.1 ∙ sym s'.at

-- a fault is at one place
pub one_place : (bytes : List ℕ) (p q : ℕ) → IsFaultAt bytes p → IsFaultAt bytes q → p ≡ q
one_place bytes p q =
    let fourth : ℕ → Type 0 = λ n. StopsAt (is_timed bytes) (datagram_header_length bytes) (drop (datagram_header_length bytes) bytes) n in
    let third : ℕ → Type 0 = λ n. MatchBool (eqb (length bytes) (datagram_header_length bytes)) (n ≡ length bytes) (fourth n) in
    let second : ℕ → Type 0 = λ n. MatchBool (ltb (length bytes) (datagram_header_length bytes)) (n ≡ 2) (third n) in
    let first : ℕ → Type 0 = λ n. MatchBool (ltb (length bytes) 2 || is_compressed bytes) (n ≡ 0) (second n) in
    stage_both (ltb most_on_link (length bytes)) most_on_link p q first
    (stage_both (ltb (length bytes) 2 || is_compressed bytes) 0 p q second
    (stage_both (ltb (length bytes) (datagram_header_length bytes)) 2 p q third
    (stage_both (eqb (length bytes) (datagram_header_length bytes)) (length bytes) p q fourth
    (stops_same (is_timed bytes) (datagram_header_length bytes) (drop (datagram_header_length bytes) bytes) p q))))

abbrev datagram_of : ℕ → ℕ → Option ℕ → List Command → Datagram
datagram_of peer session sent commands = record { peer = peer; session = session; sent = sent; commands = commands }

sent_same : (o o' : Option ℕ) → is_some o ≡ is_some o' → sent_field o ≡ sent_field o' → o ≡ o'
sent_same None None e f = refl
sent_same None (Some u) e f = absurd cc
sent_same (Some t) None e f = absurd cc
sent_same (Some t) (Some u) e f =
    let number : t ≡ u = ap (λ (fs : List WireField). get_or (values fs) 0 0) f in
    ap (λ (n : ℕ). Some n) number

sent_widths : (o o' : Option ℕ) → is_some o ≡ is_some o' → widths (sent_field o) ≡ widths (sent_field o')
sent_widths None None e = refl
sent_widths None (Some u) e = absurd cc
sent_widths (Some t) None e = absurd cc
sent_widths (Some t) (Some u) e = refl

-- bytes spell one datagram
pub one_value : (bytes : List ℕ) (d e : Datagram) → SpellsDatagram bytes d → SpellsDatagram bytes e → d ≡ e
one_value bytes d e s s' =
    let words : header_word d ≡ header_word e =
    sym (ap (big_from 0 2) s.spelled ∙ word_is d s.body s.has_header) ∙ ap (big_from 0 2) s'.spelled ∙ word_is e s'.body s'.has_header in
    let h = s.has_header in
    let h' = s'.has_header in
    let low = asking_le (is_some d.sent) in
    let low' = asking_le (is_some e.sent) in
    let bit : asking (is_some d.sent) ≡ asking (is_some e.sent) = omega arith in
    let session : d.session ≡ e.session = omega arith in
    let peer : d.peer ≡ e.peer = omega arith in
    let timed : is_some d.sent ≡ is_some e.sent = asking_same (is_some d.sent) (is_some e.sent) bit in
    let wide : widths (header d) ≡ widths (header e) = ap (λ (ws : List ℕ). 2 ∷ ws) (sent_widths d.sent e.sent timed) in
    let both = fields_same (header d) (header e) s.body s'.body wide
    (omega (arith, word_small d h), h.sent) (omega (arith, word_small e h'), h'.sent) (sym s.spelled ∙ s'.spelled) in
    let fields : sent_field d.sent ≡ sent_field e.sent = cc in
    let sent : d.sent ≡ e.sent = sent_same d.sent e.sent timed fields in
    let others : AreCommands (is_some d.sent) s'.body e.commands = rw timed s'.commands in
    let walked = walk_same (is_some d.sent) d.commands e.commands s.body s'.body [] [] s.commands others
    (ap (λ (l : List ℕ). l ++ []) both.1) (none_begins (is_some d.sent)) (none_begins (is_some d.sent)) in
    ap (λ (n : ℕ). datagram_of n d.session d.sent d.commands) peer
    ∙ ap (λ (n : ℕ). datagram_of e.peer n d.sent d.commands) session
    ∙ ap (λ (o : Option ℕ). datagram_of e.peer e.session o d.commands) sent
    ∙ ap (λ (cs : List Command). datagram_of e.peer e.session e.sent cs) walked.0
