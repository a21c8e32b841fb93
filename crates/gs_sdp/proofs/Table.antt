-- The settings that a body announces are read again.
use Rattle.std.proofs.Common.{◌≡◌, ℕ, ◌^◌, ◌<◌, ◌≤◌, Bool, true, cond, eqb, leb, not, List, [], ◌∷◌, ◌++◌, reverse, Option, Some, None, refl, sym, ap, ◌∙◌}
use Rattle.std.proofs.Common.{append_assoc, arith}
use Rattle.std.specs.Prelude.{codes, decimal, option_and_then}
use Rattle.std.specs.List.{list_all}
use Rattle.std.proofs.lemmas.List.{append-nil, reverse-append, reverse-reverse}
use Rattle.std.proofs.lemmas.Bool.Decides.{nat_tests}
use Rattle.gs_bytes.specs.Numbers.{is_digit}
use Rattle.gs_bytes.specs.Words.{without_last_spaces}
use Rattle.gs_bytes.proofs.Lists.{all-append}
use Rattle.gs_bytes.proofs.Decimals.{digits_all}
use Rattle.gs_bytes.proofs.SpaceLemmas.{digits_outer}
use Rattle.gs_bytes.proofs.SpaceLemmas.{without_last-none}
use Rattle.gs_bytes.proofs.Decimals.{decimal_is_decimal, decimal_digits, decimal_up_to-decimal}
use Rattle.gs_sdp.specs.declared.attributes.SettingName.{SettingName}
use Rattle.gs_sdp.specs.declared.attributes.SettingName.TheVariants.{PacketSize, MaxFps, Minimum, Duration}
use Rattle.gs_sdp.specs.Lines.{with_byte, crlf_lines, without_cr, behind_prefix, value_in, later, last_among, last_value, line_text}
use Rattle.gs_sdp.specs.Table.{setting_name, in_range, number_in, IsReadAgain}
use Rattle.gs_sdp.proofs.Walk.{lines_other, lines_feed}

not_feed : ℕ → Bool
not_feed b = not (eqb b 10)

-- a text without LF, and LF, is the first line
line_is : (text rest : List ℕ) → list_all not_feed text ≡ true → crlf_lines (text ++ 10 ∷ rest) ≡ text ∷ crlf_lines rest
unfolding not_feed
line_is [] rest h = lines_feed 10 rest refl
line_is (b ∷ text) rest h =
    let other : b ≡ 10 → ⊥ = grind (arith, nat_tests, h) in
    lines_other b (text ++ 10 ∷ rest) other ∙ ap (with_byte b) (line_is text rest (grind (arith, h)))

-- a line without its CR LF
front : SettingName → List ℕ → List ℕ
front n value = codes "a=" ++ setting_name n ++ codes ":" ++ value

name_bytes : (n : SettingName) → list_all not_feed (codes "a=" ++ setting_name n ++ codes ":") ≡ true
unfolding not_feed
name_bytes PacketSize = refl
name_bytes MaxFps = refl
name_bytes Minimum = refl
name_bytes Duration = refl

digits_no_feed : (value : List ℕ) → list_all is_digit value ≡ true → list_all not_feed value ≡ true
unfolding not_feed
digits_no_feed value h = digits_all not_feed (λ b d. grind (arith, nat_tests)) value h

line_of : (n : SettingName) (value rest : List ℕ) → list_all is_digit value ≡ true
    → crlf_lines (line_text (setting_name n) value ++ rest) ≡ (front n value ++ 13 ∷ []) ∷ crlf_lines rest
unfolding front not_feed
line_of n value rest h =
    let whole : line_text (setting_name n) value ++ rest ≡ (codes "a=" ++ setting_name n ++ codes ":" ++ value ++ 13 ∷ []) ++ 10 ∷ rest =
    append_assoc (codes "a=" ++ setting_name n ++ codes ":" ++ value) (13 ∷ 10 ∷ []) rest
    ∙ sym (append_assoc (codes "a=" ++ setting_name n ++ codes ":" ++ value) (13 ∷ []) (10 ∷ rest)) in
    let text = all-append not_feed (codes "a=" ++ setting_name n ++ codes ":" ++ value) (13 ∷ [])
    (all-append not_feed (codes "a=" ++ setting_name n ++ codes ":") value (name_bytes n) (digits_no_feed value h)) refl in
    ap crlf_lines whole ∙ line_is (codes "a=" ++ setting_name n ++ codes ":" ++ value ++ 13 ∷ []) rest text

without_cr-at : (text : List ℕ) → without_cr (text ++ 13 ∷ []) ≡ text
without_cr-at text = ap without_cr_of (reverse-append text (13 ∷ [])) ∙ reverse-reverse text
  where
    without_cr_of : List ℕ → List ℕ
    without_cr_of s = reverse (Rattle.gs_sdp.specs.Lines.without_first_cr s)

abbrev named : List ℕ → List ℕ → Option (List ℕ)
named name text = option_and_then (behind_prefix (codes ":")) (option_and_then (behind_prefix name) (behind_prefix (codes "a=") text))

named_same : (n : SettingName) (value : List ℕ) → named (setting_name n) (front n value) ≡ Some value
unfolding front
named_same PacketSize value = refl
named_same MaxFps value = refl
named_same Minimum value = refl
named_same Duration value = refl

abbrev value_of : List ℕ → List ℕ → Option (List ℕ)
value_of name text = option_and_then (λ bs. Some (without_last_spaces bs)) (named name text)

value_at : (n : SettingName) (value : List ℕ) → list_all is_digit value ≡ true → value_in (setting_name n) (front n value ++ 13 ∷ []) ≡ Some value
value_at n value h = ap (value_of (setting_name n)) (without_cr-at (front n value))
    ∙ ap (λ (o : Option (List ℕ)). option_and_then (λ bs. Some (without_last_spaces bs)) o) (named_same n value)
    ∙ ap (λ (t : List ℕ). some t) (without_last-none value (digits_outer value h).last)
  where
    some : List ℕ → Option (List ℕ)
    some t = Some t

-- a line of another name
abbrev IsOther : SettingName → SettingName → Type 0
IsOther n m = (value : List ℕ) → named (setting_name n) (front m value) ≡ None

other_at : (n m : SettingName) → IsOther n m → (value : List ℕ) → value_in (setting_name n) (front m value ++ 13 ∷ []) ≡ None
other_at n m other value = ap (value_of (setting_name n)) (without_cr-at (front m value))
    ∙ ap (λ (o : Option (List ℕ)). option_and_then (λ bs. Some (without_last_spaces bs)) o) (other value)

module _ (a b c d : List ℕ) (ha : list_all is_digit a ≡ true) (hb : list_all is_digit b ≡ true) (hc : list_all is_digit c ≡ true)
    (hd : list_all is_digit d ≡ true) where
  abbrev four : List ℕ
  four = line_text (setting_name PacketSize) a ++ line_text (setting_name MaxFps) b ++ line_text (setting_name Minimum) c ++ line_text (setting_name Duration) d

  four_lines : crlf_lines four
      ≡ (front PacketSize a ++ 13 ∷ []) ∷ (front MaxFps b ++ 13 ∷ []) ∷ (front Minimum c ++ 13 ∷ []) ∷ (front Duration d ++ 13 ∷ []) ∷ []
  four_lines =
      let la = line_text (setting_name PacketSize) a in
      let lb = line_text (setting_name MaxFps) b in
      let lc = line_text (setting_name Minimum) c in
      let ld = line_text (setting_name Duration) d in
      let grouped : four ≡ la ++ (lb ++ (lc ++ (ld ++ []))) = append_assoc (la ++ lb) lc ld ∙ append_assoc la lb (lc ++ ld)
      ∙ ap (λ (u : List ℕ). la ++ (lb ++ (lc ++ u))) (sym (append-nil ld)) in
      ap crlf_lines grouped ∙ line_of PacketSize a (lb ++ (lc ++ (ld ++ []))) ha
      ∙ ap (λ (ls : List (List ℕ)). (front PacketSize a ++ 13 ∷ []) ∷ ls)
      (line_of MaxFps b (lc ++ (ld ++ [])) hb ∙ ap (λ (ls : List (List ℕ)). (front MaxFps b ++ 13 ∷ []) ∷ ls)
      (line_of Minimum c (ld ++ []) hc ∙ ap (λ (ls : List (List ℕ)). (front Minimum c ++ 13 ∷ []) ∷ ls) (line_of Duration d [] hd)))

  abbrev among : List ℕ → Option (List ℕ)
  among name = later (value_in name (front PacketSize a ++ 13 ∷ []))
      (later (value_in name (front MaxFps b ++ 13 ∷ [])) (later (value_in name (front Minimum c ++ 13 ∷ []))
      (later (value_in name (front Duration d ++ 13 ∷ [])) None)))

  last_is : (name : List ℕ) → last_value name four ≡ among name
  last_is name = ap (last_among name) four_lines

  last_packet : last_value (setting_name PacketSize) four ≡ Some a
  unfolding front
  last_packet = last_is (setting_name PacketSize) ∙ (rw (
    value_at PacketSize a ha,
    other_at PacketSize MaxFps (λ v. refl) b,
    other_at PacketSize Minimum (λ v. refl) c,
    other_at PacketSize Duration (λ v. refl) d,
  ) refl)

  last_fps : last_value (setting_name MaxFps) four ≡ Some b
  unfolding front
  last_fps = last_is (setting_name MaxFps) ∙ (rw (
    other_at MaxFps PacketSize (λ v. refl) a,
    value_at MaxFps b hb,
    other_at MaxFps Minimum (λ v. refl) c,
    other_at MaxFps Duration (λ v. refl) d,
  ) refl)

  last_minimum : last_value (setting_name Minimum) four ≡ Some c
  unfolding front
  last_minimum = last_is (setting_name Minimum) ∙ (rw (
    other_at Minimum PacketSize (λ v. refl) a,
    other_at Minimum MaxFps (λ v. refl) b,
    value_at Minimum c hc,
    other_at Minimum Duration (λ v. refl) d,
  ) refl)

  last_duration : last_value (setting_name Duration) four ≡ Some d
  unfolding front
  last_duration = last_is (setting_name Duration) ∙ (rw (
    other_at Duration PacketSize (λ v. refl) a,
    other_at Duration MaxFps (λ v. refl) b,
    other_at Duration Minimum (λ v. refl) c,
    value_at Duration d hd,
  ) refl)

number_at : (least most missing n : ℕ) (value : Option (List ℕ)) → value ≡ Some (decimal n) → least ≤ n → n ≤ most → n < 2 ^ 64
    → number_in least most missing value ≡ Some n
number_at least most missing n value e low high fits =
    let test : leb least n ≡ true = grind (arith, nat_tests) in
    ap (number_in least most missing) e ∙ ap (λ (o : Option ℕ). option_and_then (in_range least most) o) (decimal_up_to-decimal most n high fits)
    ∙ ap (λ (t : Bool). cond t (some n) None) test
  where
    some : ℕ → Option ℕ
    some k = Some k

digits : (n : ℕ) → n < 2 ^ 64 → list_all is_digit (decimal n) ≡ true
digits n lt = decimal_digits (decimal n) (decimal_is_decimal n lt)

pub is_read_again : IsReadAgain
is_read_again s offer duration percentage audio ssrc =
    let packet_fits : s.packet < 2 ^ 64 = omega (arith, s.packet_greatest) in
    let fps_fits : s.fps < 2 ^ 64 = omega (arith, s.fps_greatest) in
    let minimum_fits : s.minimum < 2 ^ 64 = omega (arith, s.minimum_greatest) in
    let duration_small : s.duration ≤ 10 = grind (arith, nat_tests, s.duration_known) in
    let duration_fits : s.duration < 2 ^ 64 = omega arith in
    let da = digits s.packet packet_fits in
    let db = digits s.fps fps_fits in
    let dc = digits s.minimum minimum_fits in
    let dd = digits s.duration duration_fits in
    record {
      packet = number_at 1024 1440 1392 s.packet _ (last_packet (decimal s.packet) (decimal s.fps) (decimal s.minimum) (decimal s.duration) da db dc dd)
          s.packet_least s.packet_greatest packet_fits;
      fps = number_at 1 240 60 s.fps _ (last_fps (decimal s.packet) (decimal s.fps) (decimal s.minimum) (decimal s.duration) da db dc dd) s.fps_least
          s.fps_greatest fps_fits;
      minimum = number_at 0 2 2 s.minimum _ (last_minimum (decimal s.packet) (decimal s.fps) (decimal s.minimum) (decimal s.duration) da db dc dd)
          (omega arith) s.minimum_greatest minimum_fits;
      duration = number_at offer.duration offer.duration offer.duration s.duration _
          (last_duration (decimal s.packet) (decimal s.fps) (decimal s.minimum) (decimal s.duration) da db dc dd) (omega (arith, duration))
          (omega (arith, duration)) duration_fits;
      percentage = sym percentage;
      audio = sym audio;
      ssrc = sym ssrc;
    }
