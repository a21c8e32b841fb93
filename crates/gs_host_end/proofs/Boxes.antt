-- What was put into an outbox is stored, one after the other.
use Rattle.std.proofs.Common.{◌≡◌, ℕ, List, [], ◌∷◌, ◌++◌, map, refl, sym, ap, subst, ◌∙◌}
use Rattle.std.proofs.lemmas.List.{append_assoc, append-nil}
use Rattle.gs_bytes.specs.declared.addr.Addr.{Addr}
use Rattle.gs_bytes.specs.declared.link.LinkEntry.{LinkEntry}
use Rattle.gs_bytes.specs.declared.link.LinkEntry.TheVariants.{Put}
use Rattle.gs_store.specs.declared.store.Store.{Store}
use Rattle.gs_store.specs.Standing.{IsStoreOf}
use Rattle.gs_host_end.specs.Boxes.{put_bytes, all_put}

pub all_put-put : (to : Addr) (ds : List (List ℕ)) → all_put (map (λ bytes. Put to bytes) ds) ≡ ds
all_put-put to [] = refl
all_put-put to (d ∷ ds) = ap (λ (rest : List (List ℕ)). d ∷ rest) (all_put-put to ds)

-- Of all that was put these are stored, and the rest is still to be.
pub record Stores (entries rest : List LinkEntry) (old now : Store (List ℕ)) (all : List (List ℕ)) : Type 0 where
  pub stored : List (List ℕ)
  pub parts : stored ++ all_put rest ≡ all_put entries
  pub stands : IsStoreOf now (all ++ stored)

pub stores-none : (entries : List LinkEntry) (store : Store (List ℕ)) (all : List (List ℕ)) → IsStoreOf store all
    → Stores entries entries store store all
stores-none entries store all h = record { stored = []; parts = refl; stands = subst (IsStoreOf store) (sym (append-nil all)) h }

pub stores-more : (entries rest next : List LinkEntry) (e : LinkEntry) (old now new : Store (List ℕ)) (all : List (List ℕ)) → rest ≡ e ∷ next
    → ((every : List (List ℕ)) → IsStoreOf now every → IsStoreOf new (every ++ put_bytes e)) → Stores entries rest old now all
    → Stores entries next old new all
stores-more entries rest next e old now new all is put s = record {
  stored = s.stored ++ put_bytes e;
  parts = append_assoc s.stored (put_bytes e) (all_put next)
      ∙ ap (λ (l : List LinkEntry). s.stored ++ all_put l) (sym is) ∙ s.parts;
  stands = subst (IsStoreOf new) (append_assoc all s.stored (put_bytes e)) (put (all ++ s.stored) s.stands);
}

pub stores-all : (entries rest : List LinkEntry) (old now : Store (List ℕ)) (all : List (List ℕ)) → rest ≡ [] → Stores entries rest old now all
    → IsStoreOf now (all ++ all_put entries)
stores-all entries rest old now all is s =
    subst (λ (l : List (List ℕ)). IsStoreOf now (all ++ l))
    (sym (append-nil s.stored) ∙ ap (λ (l : List LinkEntry). s.stored ++ all_put l) (sym is) ∙ s.parts) s.stands

-- what is put into an empty outbox is all that was put
pub put-are : (before now : List LinkEntry) (to : Addr) (ds : List (List ℕ)) → before ≡ []
    → now ≡ before ++ map (λ bytes. Put to bytes) ds → all_put now ≡ ds
put-are before now to ds none is =
    ap all_put (is ∙ ap (λ (l : List LinkEntry). l ++ map (λ bytes. Put to bytes) ds) none) ∙ all_put-put to ds

pub grows-by : (old new gained : List (List ℕ)) (before now : List LinkEntry) (to : Addr) → new ≡ old ++ gained → before ≡ []
    → now ≡ before ++ map (λ bytes. Put to bytes) gained → new ≡ old ++ all_put now
grows-by old new gained before now to grows none is =
    grows ∙ ap (λ (l : List (List ℕ)). old ++ l) (sym (put-are before now to gained none is))
