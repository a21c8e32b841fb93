-- Checksums of texts, as others publish them.
use Rattle.std.specs.Prelude.{◌≡◌, codes, refl}
use Rattle.gsbench.specs.Checksum.{fnv_1a}

of_none : fnv_1a (codes "") ≡ 0x811C9DC5
of_none = refl

of_a : fnv_1a (codes "a") ≡ 0xE40C292C
of_a = refl

of_foobar : fnv_1a (codes "foobar") ≡ 0xBF9CF968
of_foobar = refl
