-- Any bytes spell a datagram or have a fault.
use Rattle.std.proofs.Common.{◌≡◌, ◌≢◌, ℕ, zero, suc, ◌+◌, ◌*◌, ◌/◌, ◌%◌, ◌<◌, ◌≤◌, Bool, true, false, cond, eqb, ltb, get_or, List, [], ◌∷◌, ◌++◌, length}
use Rattle.std.proofs.Common.{drop, Option, Some, None, refl, sym, ap, subst, ◌∙◌, append_assoc, arith, length-append}
use Rattle.std.specs.Prelude.{is_some, MatchBool, ◌||◌}
use Rattle.std.specs.List.{AllByRecursion}
use Rattle.std.proofs.lemmas.Bool.{false≢true, ltb-false, or_parts}
use Rattle.std.proofs.lemmas.Bool.Decides.{nat_tests}
use Rattle.std.proofs.lemmas.List.{append-nil}
use Rattle.std.proofs.lemmas.Nat.{be_bytes_2}
use Rattle.gs_bytes.specs.Field.{big_from}
use Rattle.gs_enet_wire.specs.declared.command.Command.{Command}
use Rattle.gs_enet_wire.specs.declared.datagram.Datagram.{Datagram}
use Rattle.gs_enet_wire.specs.Grammar.{u16, field_bytes, fields_bytes, header, HasHeader, most_on_link, SpellsDatagram, is_compressed, is_timed}
use Rattle.gs_enet_wire.specs.Grammar.{datagram_header_length}
use Rattle.gs_enet_wire.specs.Grammar.{after_first, AreCommands, StopsAt}
use Rattle.gs_enet_wire.specs.Laws.{NotNeither}
use Rattle.gs_enet_wire.proofs.HeaderReaders.{commands_push}

-- Behind some commands, the bytes that are left end, or begin with no command, or with one more.
walk : (n start : ℕ) (t : Bool) (front rest : List ℕ) (cs : List Command) → length rest ≤ n → AreCommands t front cs
    → ((ds : List Command) → AreCommands t (front ++ rest) ds → ⊥) → ((place : ℕ) → StopsAt t start (front ++ rest) place → ⊥) → ⊥
walk n start t front [] cs le are whole stops = whole cs (subst (λ l. AreCommands t l cs) (sym (append-nil front)) are)
walk zero start t front (b ∷ rest) cs le are whole stops = absurd (omega arith)
walk (suc n) start t front (b ∷ rest) cs le are whole stops = stops (start + length front) (record {
  front = front;
  rest = b ∷ rest;
  parts = refl;
  commands = cs;
  before = are;
  more = λ e. absurd cc;
  none = λ c piece behind e is.
      let same : (front ++ piece) ++ behind ≡ front ++ b ∷ rest = append_assoc front piece behind ∙ ap (λ l. front ++ l) (sym e) in
      let some : length piece ≡ suc (length (after_first c)) = ap length is.spelled in
      let long : length (b ∷ rest) ≡ length piece + length behind = ap length e ∙ length-append piece behind in
      walk n start t (front ++ piece) behind (cs ++ c ∷ []) (omega arith) (commands_push t front piece cs c are is)
      (λ ds h. whole ds (subst (λ l. AreCommands t l ds) same h)) (λ place h. stops place (subst (λ l. StopsAt t start l place) same h));
  at = refl;
})

abbrev datagram : ℕ → ℕ → Option ℕ → List Command → Datagram
datagram peer session sent commands = record { peer = peer; session = session; sent = sent; commands = commands }

-- the same behind a whole header
ending : (bytes body : List ℕ) (peer session : ℕ) (sent : Option ℕ) → HasHeader (datagram peer session sent [])
    → bytes ≡ fields_bytes (header (datagram peer session sent [])) ++ body
    → length bytes ≤ most_on_link → body ≢ [] → ((d : Datagram) → SpellsDatagram bytes d → ⊥)
    → ((place : ℕ) → StopsAt (is_some sent) (datagram_header_length bytes) body place → ⊥) → ⊥
ending bytes body peer session sent h parts short some no_value no_stop =
    walk (length body) (datagram_header_length bytes) (is_some sent) [] body [] (omega arith) refl
    (λ cs are. no_value (datagram peer session sent cs) (record {
      has_header = record { peer = h.peer; session = h.session; sent = h.sent };
      some = λ e. some (subst (AreCommands (is_some sent) body) e are);
      short = short;
      body = body;
      spelled = parts;
      commands = are;
    })) no_stop

-- a cause that holds at no place doesn't hold
passed : (b : Bool) (v : ℕ) (Q : ℕ → Type 0) → ((place : ℕ) → MatchBool b (place ≡ v) (Q place) → ⊥) → (b ≡ false) × ((place : ℕ) → Q place → ⊥)
passed true v Q none = absurd (none v refl)
passed false v Q none = (refl, none)

-- two bytes are those of the number in them
small_at : (a b i : ℕ) → a < 256 → b < 256 → get_or (a ∷ b ∷ []) i 0 < 256
small_at a b zero sa sb = sa
small_at a b (suc zero) sa sb = sb
small_at a b (suc (suc i)) sa sb = omega arith

two_bytes : (a b : ℕ) → a < 256 → b < 256 → field_bytes (u16 (big_from 0 2 (a ∷ b ∷ []))) ≡ a ∷ b ∷ []
two_bytes a b sa sb = be_bytes_2 (a ∷ b ∷ []) (big_from 0 2 (a ∷ b ∷ [])) refl (λ i. small_at a b i sa sb) (omega arith)

-- the first two bytes without a sent time behind them
untimed : (a b : ℕ) (body bytes : List ℕ) → a < 256 → b < 256 → bytes ≡ a ∷ b ∷ body → big_from 0 2 bytes / 16384 % 2 ≡ 0 → big_from 0 2 bytes < 32768
    → length bytes ≤ most_on_link
    → body ≢ [] → ((d : Datagram) → SpellsDatagram bytes d → ⊥) → ((place : ℕ) → StopsAt false (datagram_header_length bytes) body place → ⊥) → ⊥
untimed a b body bytes sa sb is plain low short some no_value no_stop =
    let w : ℕ = big_from 0 2 (a ∷ b ∷ []) in
    let word : big_from 0 2 bytes ≡ w = ap (big_from 0 2) is in
    let said : w ≡ w % 4096 + 4096 * (w / 4096 % 4) + 32768 * 0 = omega (arith, word) in
    let first : field_bytes (u16 (w % 4096 + 4096 * (w / 4096 % 4) + 32768 * 0)) ≡ a ∷ b ∷ [] =
    ap (λ (k : ℕ). field_bytes (u16 k)) (sym said) ∙ two_bytes a b sa sb in
    ending bytes body (w % 4096) (w / 4096 % 4) None (record { peer = omega arith; session = omega arith; sent = tt })
    (is ∙ sym (ap (λ (l : List ℕ). l ++ body) first)) short some no_value no_stop

-- and with it
with_time : (a b c d : ℕ) (body bytes : List ℕ) → a < 256 → b < 256 → c < 256 → d < 256 → bytes ≡ a ∷ b ∷ c ∷ d ∷ body → big_from 0 2 bytes / 16384 % 2 ≡ 0
    → 32768 ≤ big_from 0 2 bytes
    → length bytes ≤ most_on_link → body ≢ [] → ((d : Datagram) → SpellsDatagram bytes d → ⊥)
    → ((place : ℕ) → StopsAt true (datagram_header_length bytes) body place → ⊥) → ⊥
with_time a b c d body bytes sa sb sc sd is plain high short some no_value no_stop =
    let w : ℕ = big_from 0 2 (a ∷ b ∷ []) in
    let t : ℕ = big_from 0 2 (c ∷ d ∷ []) in
    let word : big_from 0 2 bytes ≡ w = ap (big_from 0 2) is in
    let said : w ≡ w % 4096 + 4096 * (w / 4096 % 4) + 32768 * 1 = omega (arith, word) in
    let first : field_bytes (u16 (w % 4096 + 4096 * (w / 4096 % 4) + 32768 * 1)) ≡ a ∷ b ∷ [] =
    ap (λ (k : ℕ). field_bytes (u16 k)) (sym said) ∙ two_bytes a b sa sb in
    let second : field_bytes (u16 t) ≡ c ∷ d ∷ [] = two_bytes c d sc sd in
    let both : field_bytes (u16 (w % 4096 + 4096 * (w / 4096 % 4) + 32768 * 1)) ++ field_bytes (u16 t) ≡ a ∷ b ∷ c ∷ d ∷ [] =
    ap (λ (l : List ℕ). l ++ field_bytes (u16 t)) first ∙ ap (λ (l : List ℕ). (a ∷ b ∷ []) ++ l) second in
    ending bytes body (w % 4096) (w / 4096 % 4) (Some t) (record { peer = omega arith; session = omega arith; sent = (omega arith, tt) })
    (is ∙ sym (ap (λ (l : List ℕ). l ++ body) both)) short some no_value no_stop

-- the bytes behind the tests of the header
behind : (bytes : List ℕ) (t : Bool) → AllByRecursion (λ b. b < 256) bytes → is_timed bytes ≡ t → length bytes ≤ most_on_link → ltb (length bytes) 2 ≡ false
    → is_compressed bytes ≡ false
    → ltb (length bytes) (cond t 4 2) ≡ false → eqb (length bytes) (cond t 4 2) ≡ false → ((d : Datagram) → SpellsDatagram bytes d → ⊥)
    → ((place : ℕ) → StopsAt t (datagram_header_length bytes) (drop (cond t 4 2) bytes) place → ⊥) → ⊥
behind [] t low timed short two plain time some no_value no_stop = absurd (false≢true (sym two))
behind (a ∷ []) t low timed short two plain time some no_value no_stop = absurd (false≢true (sym two))
behind (a ∷ b ∷ []) true low timed short two plain time some no_value no_stop = absurd (false≢true (sym time))
behind (a ∷ b ∷ []) false low timed short two plain time some no_value no_stop = absurd (false≢true (sym some))
behind (a ∷ b ∷ c ∷ rest) false low timed short two plain time some no_value no_stop =
    untimed a b (c ∷ rest) (a ∷ b ∷ c ∷ rest) low.0 low.1.0 refl (grind (arith, nat_tests)) (grind (arith, nat_tests)) short (λ e. absurd cc) no_value no_stop
behind (a ∷ b ∷ c ∷ []) true low timed short two plain time some no_value no_stop = absurd (false≢true (sym time))
behind (a ∷ b ∷ c ∷ d ∷ []) true low timed short two plain time some no_value no_stop = absurd (false≢true (sym some))
behind (a ∷ b ∷ c ∷ d ∷ e ∷ rest) true low timed short two plain time some no_value no_stop =
    with_time a b c d (e ∷ rest) (a ∷ b ∷ c ∷ d ∷ e ∷ rest) low.0 low.1.0 low.1.1.0 low.1.1.1.0 refl (grind (arith, nat_tests)) (grind (arith, nat_tests)) short
    (λ h. absurd cc) no_value no_stop

pub neither : NotNeither
neither bytes low no_value no_fault =
    let one = passed (ltb most_on_link (length bytes)) most_on_link _ no_fault in
    let two = passed (ltb (length bytes) 2 || is_compressed bytes) 0 _ one.1 in
    let three = passed (ltb (length bytes) (datagram_header_length bytes)) 2 _ two.1 in
    let four = passed (eqb (length bytes) (datagram_header_length bytes)) (length bytes) _ three.1 in
    let tests = or_parts (ltb (length bytes) 2) (is_compressed bytes) two.0 in
    behind bytes (is_timed bytes) low refl (ltb-false _ _ one.0) tests.0 tests.1 three.0 four.0 no_value four.1
