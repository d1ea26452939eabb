-- Members that are put in from the last key to the first.
use Rattle.std.proofs.Common.{◌≡◌, ◌==◌, ℕ, Bool, true, false, cond, refl, ap, ◌∙◌}
use Rattle.std.specs.Prelude.{codes}
use Rattle.serde_json.specs.Data.{Data, number, unsigned, object, Members, no_members, member, put}
use Rattle.pm_slicejson.specs.Writing.{with_count, put_count}

-- where the booleans say that the numbers are 0
puts-by : (no_end no_start : Bool) (c e s : Data) → put (codes "content") c (cond no_end (cond no_start no_members (put (codes "openStart") s no_members)) (put (codes "openEnd") e (cond no_start no_members (put (codes "openStart") s no_members))))
    ≡ member (codes "content") c (cond no_end (cond no_start no_members (member (codes "openStart") s no_members)) (member (codes "openEnd") e (cond no_start no_members (member (codes "openStart") s no_members))))
puts-by true true c e s = refl
puts-by true false c e s = refl
puts-by false true c e s = refl
puts-by false false c e s = refl

pub puts : (c : Data) (e s : ℕ) → put (codes "content") c (put_count (codes "openEnd") e (put_count (codes "openStart") s no_members)) ≡ member (codes "content") c (with_count (codes "openEnd") e (with_count (codes "openStart") s no_members))
puts c e s = puts-by (e == 0) (s == 0) c (number (unsigned e)) (number (unsigned s))

pub ruleset counts = (puts)
