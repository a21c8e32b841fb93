-- Cited by private contracts alone: room for one item more.
use Rattle.std.specs.Prelude.{◌≡◌, ◌<◌, ◌⊎◌, length}
use Rattle.circular_buffer.specs.Buffer.{Buffer}
use Rattle.gs_store.specs.Named.{most_named}

-- there is room for one more, or as many are kept as can be named
abbrev pub HasRoom : {A : Type 0} → Buffer A → Type 0
HasRoom b = (length b.items < b.capacity) ⊎ (b.capacity ≡ most_named)
