-- The list that a store stands for: all that was put, the oldest first.
use Rattle.std.specs.Prelude.{◌≡◌, List, length}
use Rattle.circular_buffer.specs.Buffer.{Buffer, keep_last}
use Rattle.gs_store.specs.declared.store.Store.{Store}
use Rattle.gs_store.specs.Named.{most_named}

pub record IsStoreOf {A : Type 0} (store : Store A) (all : List A) : Type 0 where
  pub count : store.count ≡ length all
  pub kept : store.kept.items ≡ keep_last most_named all
