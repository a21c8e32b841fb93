-- A datagram that is put behind the others.
use Rattle.std.proofs.Common.{◌≡◌, ℕ, List, [], ◌∷◌, ◌++◌, map, Result, Ok, Err, sym, ap, subst, ◌∙◌}
use Rattle.std.specs.Prelude.{OnOk, OnErr}
use Rattle.std.proofs.lemmas.List.{map-append}
use Rattle.std.proofs.lemmas.List.Elements.{All-push}
use Rattle.gs_enet.specs.World.{Written}
use Rattle.gs_store.specs.declared.store.Store.{Store}
use Rattle.gs_store.specs.Standing.{IsStoreOf}
use Rattle.gs_sides.specs.Known.{bytes_by, IsReadAsItself, HoldsAll, HasList, IsWrittenBytes}
use Rattle.gs_sides.specs.Steps.{IsPutBehind}

pub stores : (old new : Store (List ℕ)) (item : List ℕ) (ws : List Written) (w : Written)
    → ((all : List (List ℕ)) → IsStoreOf old all → IsStoreOf new (all ++ item ∷ []))
    → item ≡ bytes_by w → IsReadAsItself w → HoldsAll old ws → HoldsAll new (ws ++ w ∷ [])
stores old new item ws w put is again h =
    let spelled : map bytes_by ws ++ item ∷ [] ≡ map bytes_by (ws ++ w ∷ []) =
    ap (λ (b : List ℕ). map bytes_by ws ++ b ∷ []) is ∙ sym (map-append bytes_by ws (w ∷ [])) in
    record {
      bytes = subst (λ (bs : List (List ℕ)). IsStoreOf new bs) spelled (put (map bytes_by ws) h.bytes);
      read_again = All-push IsReadAsItself ws w h.read_again again;
    }

pub stores_same : (old new : Store (List ℕ)) (ws : List Written)
    → ((all : List (List ℕ)) → IsStoreOf old all → IsStoreOf new all) → HoldsAll old ws → HoldsAll new ws
stores_same old new ws same h = record { bytes = same (map bytes_by ws) h.bytes; read_again = h.read_again }

-- whether the item was put or refused, the store holds datagrams that were written
pub keeps : {T E : Type 0} (old new : Store (List ℕ)) (item : List ℕ) (r : Result T E) → HasList old → IsWrittenBytes item
    → OnOk r (IsPutBehind item old new) → OnErr r ((all : List (List ℕ)) → IsStoreOf old all → IsStoreOf new all) → HasList new
keeps old new item (Ok v) known written put same =
    λ none. known (λ ws holds. written (λ w is again. none (ws ++ w ∷ []) (stores old new item ws w put is again holds)))
keeps old new item (Err e) known written put same = λ none. known (λ ws holds. none ws (stores_same old new ws same holds))
