-- The domain of equality on a plain tune, at its edge and outside it.
use mathlib.Core.Path.{◌≡◌, refl}
use mathlib.Core.Bool.{true, false}
use Rattle.standard.specs.Bytes.{ascii}
use Rattle.reader.specs.All.{all}
use Rattle.promises.specs.Domain.{in_domain}

pub plain_inside : in_domain (ascii "K:C\nA2 B/2 [CE]z\n") 2000 100000 ≡ true
unfolding all
plain_inside = refl

-- 2^31 times 2^26
pub edge_inside : in_domain (ascii "L:1/67108864\nK:C\nA/2147483648\n") 2000 100000 ≡ true
unfolding all
edge_inside = refl

pub edge_outside : in_domain (ascii "L:1/67108865\nK:C\nA/2147483648\n") 2000 100000 ≡ false
unfolding all
edge_outside = refl

-- a refused text is none
pub refused_outside : in_domain (ascii "K:C\nX:2\n") 2000 100000 ≡ false
unfolding all
refused_outside = refl
