-- A text for each refusal that a short text can bring about, with its line, as the Rust's probes answer (tools/reference --answer).
use mathlib.Core.Path.{◌≡◌, refl}
use mathlib.Core.List.{List, [], ◌∷◌}
use Rattle.standard.specs.Bytes.{ascii}
use Rattle.reader.specs.All.{all}
use Rattle.examples.specs.Shown.{answered}

pub refused_1 : answered (ascii " \n") 1000 ≡ 0 ∷ 1 ∷ 0 ∷ []
unfolding all
refused_1 = refl

pub refused_3 : answered (75 ∷ 58 ∷ 67 ∷ 10 ∷ 255 ∷ []) 1000 ≡ 0 ∷ 3 ∷ 0 ∷ []
unfolding all
refused_3 = refl

pub refused_6 : answered (75 ∷ 58 ∷ 67 ∷ 10 ∷ 65 ∷ 195 ∷ 169 ∷ 10 ∷ []) 1000 ≡ 0 ∷ 6 ∷ 2 ∷ []
unfolding all
refused_6 = refl

pub refused_7 : answered (ascii "K:C\nA\nX:2\n") 1000 ≡ 0 ∷ 7 ∷ 3 ∷ []
unfolding all
refused_7 = refl

pub refused_8 : answered (ascii "V:\nK:C\nA") 1000 ≡ 0 ∷ 8 ∷ 1 ∷ []
unfolding all
refused_8 = refl

pub refused_9 : answered (ascii "V:0\nV:1\nV:2\nV:3\nV:4\nV:5\nV:6\nV:7\nV:8\nV:9\nV:10\nV:11\nV:12\nV:13\nV:14\nV:15\nV:16\nV:17\nV:18\nV:19\nV:20\nV:21\nV:22\nV:23\nV:24\nV:25\nV:26\nV:27\nV:28\nV:29\nV:30\nV:31\nV:32\nK:C\nA") 1000 ≡ 0 ∷ 9 ∷ 33 ∷ []
unfolding all
refused_9 = refl

pub refused_10 : answered (ascii "K:C\nA[K:G middle=B]") 1000 ≡ 0 ∷ 10 ∷ 2 ∷ []
unfolding all
refused_10 = refl

pub refused_12 : answered (ascii "L:1/8\nK:C\nA,,,,,,,,,,,,,,,,,,,,,,,,,,,,,,,,,,,,,,,,,,,,,,,,,,,,,,,,,,,,,,,,,,,,,,,,,,,,,,,,,,,,,,,,,,,,,,,,,,,,,,,,,,,,,,,,,,,,,,,,,,,,,,,,,,,,,") 1000 ≡ 0 ∷ 12 ∷ 3 ∷ []
unfolding all
refused_12 = refl

pub refused_13 : answered (ascii "L:1/8\nK:C\nA>>>>>>>>>>>>>>>>>>>>>>>>>>>>>>>>>>>>>>>>>>>>>>>>>>>>>>>>>>>>>>>>>>>>>>>>>>>>>>>>>>>>>>>>>>>>>>>>>>>>>>>>>>>>>>>>>>>>>>>>>>>>>>>>>>>>>>>>>>>>>>>>>>>>>>>>>>>>>>>>>>>>>>>>>>>>>>>>>>>>>>>>>>>>>>>>>>>>>>>>>>>>>>>>>>>>>>>>>>>>>>>>>>>>>>>>>>>>>>>>>>>>>>>>>>>>>>>>") 1000 ≡ 0 ∷ 13 ∷ 3 ∷ []
unfolding all
refused_13 = refl

pub refused_14 : answered (ascii "L:1/8\nK:C\nA|[1,02B") 1000 ≡ 0 ∷ 14 ∷ 3 ∷ []
unfolding all
refused_14 = refl

pub refused_17 : answered (ascii "L:1/8\nK:C\nA|[1,33B") 1000 ≡ 0 ∷ 17 ∷ 3 ∷ []
unfolding all
refused_17 = refl

pub refused_18 : answered (ascii "L:1/8\nK:C\nA|[1,3-2B") 1000 ≡ 0 ∷ 18 ∷ 3 ∷ []
unfolding all
refused_18 = refl
