-- No command begins another, and no two are spelled alike.
use Rattle.std.proofs.Common.{◌≡◌, ℕ, ◌/◌, ◌%◌, Bool, true, false, List, ◌∷◌, ◌++◌, length, take, drop, refl, sym, ap, ◌∙◌, append_assoc, arith}
use Rattle.std.proofs.lemmas.List.{take_at, drop_at}
use Rattle.gs_enet_wire.specs.declared.command.Command.{Command}
use Rattle.gs_enet_wire.specs.declared.command.Head.{Head}
use Rattle.gs_enet_wire.specs.Grammar.{head_of, command_head, kind, fields, payload, all_fields, after_first, asking, IsCommand, fields_bytes}
use Rattle.gs_enet_wire.proofs.FieldLemmas.{widths, values, fields_same}
use Rattle.gs_enet_wire.proofs.Table.{widths_of, data_length, widths-fields, length-payload, same_from_parts}

pub asking_same : (a b : Bool) → asking a ≡ asking b → a ≡ b
asking_same true true e = refl
asking_same true false e = absurd (omega arith)
asking_same false true e = absurd (omega arith)
asking_same false false e = refl

head_same : (h g : Head) → h.channel ≡ g.channel → h.number ≡ g.number → h.asks ≡ g.asks → h ≡ g
head_same h g channel number asks =
    ap (λ (n : ℕ). head_of n h.number h.asks) channel ∙ ap (λ (n : ℕ). head_of g.channel n h.asks) number ∙ ap (λ (b : Bool). head_of g.channel g.number b) asks

-- two lists of one length that begin one text are the same
pub fronts_same : (a b x y : List ℕ) → length a ≡ length b → a ++ x ≡ b ++ y → (a ≡ b) × (x ≡ y)
fronts_same a b x y len e = (
  sym (take_at a x (length a) refl) ∙ ap (take (length a)) e ∙ take_at b y (length a) (sym len),
  sym (drop_at a x (length a) refl) ∙ ap (drop (length a)) e ∙ drop_at b y (length a) (sym len),
)

-- the commands that begin one text are the same, and so is what is behind them
pub command_same : (t : Bool) (a b : List ℕ) (c d : Command) (x y : List ℕ) → IsCommand t a c → IsCommand t b d → a ++ x ≡ b ++ y → (c ≡ d) × (x ≡ y)
command_same t a b c d x y p q e =
    let cells : p.first ∷ (after_first c ++ x) ≡ q.first ∷ (after_first d ++ y) =
    sym (ap (λ (l : List ℕ). l ++ x) p.spelled) ∙ e ∙ ap (λ (l : List ℕ). l ++ y) q.spelled in
    let first : p.first ≡ q.first = cc in
    let others : after_first c ++ x ≡ after_first d ++ y = cc in
    let k : kind c ≡ kind d = sym p.is_first.low ∙ ap (λ (n : ℕ). n % 16) first ∙ q.is_first.low in
    let bit : asking (command_head c).asks ≡ asking (command_head d).asks = sym p.is_first.high ∙ ap (λ (n : ℕ). n / 128) first ∙ q.is_first.high in
    let asks = asking_same (command_head c).asks (command_head d).asks bit in
    let wide : widths (all_fields c) ≡ widths (all_fields d) = ap (λ (ws : List ℕ). 1 ∷ 2 ∷ ws) (widths-fields c ∙ ap widths_of k ∙ sym (widths-fields d)) in
    let regrouped : fields_bytes (all_fields c) ++ (payload c ++ x) ≡ fields_bytes (all_fields d) ++ (payload d ++ y) =
    sym (append_assoc (fields_bytes (all_fields c)) (payload c) x) ∙ others ∙ append_assoc (fields_bytes (all_fields d)) (payload d) y in
    let both = fields_same (all_fields c) (all_fields d) (payload c ++ x) (payload d ++ y) wide p.fit q.fit regrouped in
    let all_numbers : values (all_fields c) ≡ values (all_fields d) = ap values both.0 in
    let channel : (command_head c).channel ≡ (command_head d).channel = cc in
    let number : (command_head c).number ≡ (command_head d).number = cc in
    let numbers : values (fields c) ≡ values (fields d) = cc in
    let len : length (payload c) ≡ length (payload d) =
    length-payload c ∙ ap (λ (n : ℕ). data_length n (values (fields c))) k ∙ ap (data_length (kind d)) numbers ∙ sym (length-payload d) in
    let both_data = fronts_same (payload c) (payload d) x y len both.1 in
    let heads : command_head c ≡ command_head d = head_same (command_head c) (command_head d) channel number asks in
    (same_from_parts c d k heads numbers both_data.0, both_data.1)
