-- What a JSON value is of which a text or a whole number was read.
use Rattle.std.proofs.Common.{◌≡◌, ℕ, List, Some, ap}
use Rattle.std.specs.Prelude.{option_and_then}
use Rattle.serde_json.specs.Data.{Data, null, boolean, number, string, array, object, unsigned, negative, float}
use Rattle.serde_json.specs.Find.{as_str, as_number, as_u64}

pub text-seen : (d : Data) (bs : List ℕ) → as_str d ≡ Some bs → d ≡ string bs
text-seen null bs h = absurd (cc)
text-seen (boolean b) bs h = absurd (cc)
text-seen (number n) bs h = absurd (cc)
text-seen (string us) bs h = let same : us ≡ bs = cc in ap string same
text-seen (array ds) bs h = absurd (cc)
text-seen (object ms) bs h = absurd (cc)

pub count-seen : (d : Data) (n : ℕ) → option_and_then as_u64 (as_number d) ≡ Some n → d ≡ number (unsigned n)
count-seen null n h = absurd (cc)
count-seen (boolean b) n h = absurd (cc)
count-seen (number (unsigned m)) n h = let same : m ≡ n = cc in ap (λ k. number (unsigned k)) same
count-seen (number (negative z)) n h = absurd (cc)
count-seen (number (float x)) n h = absurd (cc)
count-seen (string us) n h = absurd (cc)
count-seen (array ds) n h = absurd (cc)
count-seen (object ms) n h = absurd (cc)

pub ruleset ids_seen = (text-seen, count-seen)
