-- One of a few readings.
use Rattle.std.proofs.Common.{◌<◌, suc, List, ◌∷◌, length, refl, arith}
use Rattle.std.specs.Prelude.{Contains}
use Rattle.fdp_image.specs.Reading.{Reading}

pub first : (a : Reading) (rs : List Reading) → Contains (a ∷ rs) a
first a rs = (0, (let lt : 0 < length (a ∷ rs) = omega arith in lt), refl)

pub behind : (a r : Reading) (rs : List Reading) → Contains rs r → Contains (a ∷ rs) r
behind a r rs h = (suc h.0, omega (arith, h.1), h.2)

pub second : (a b : Reading) (rs : List Reading) → Contains (a ∷ b ∷ rs) b
second a b rs = behind a b (b ∷ rs) (first b rs)

pub third : (a b d : Reading) (rs : List Reading) → Contains (a ∷ b ∷ d ∷ rs) d
third a b d rs = behind a d (b ∷ d ∷ rs) (second b d rs)

pub fourth : (a b d e : Reading) (rs : List Reading) → Contains (a ∷ b ∷ d ∷ e ∷ rs) e
fourth a b d e rs = behind a e (b ∷ d ∷ e ∷ rs) (third b d e rs)
