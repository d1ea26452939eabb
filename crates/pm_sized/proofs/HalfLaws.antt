-- The search by halves, and the number of its steps.
use Rattle.std.specs.Prelude.{◌≡◌, ℕ, ◌+◌, ◌*◌, ◌-◌, ◌/◌, ◌≤◌, ◌<◌, ◌^◌, List, length, get_or}
use Rattle.std.proofs.Common.{zero, suc, sym, subst, arith}
use Rattle.std.proofs.Math.Nat.{pow-suc}
use Rattle.pm_sized.specs.Bound.{halvings, digits}

-- Of k steps, `rest` are left, which is enough for so many starts.
pub record Left (width before now k : ℕ) : Type 0 where
  pub rest : ℕ
  pub counted : now + rest ≡ before + k
  pub enough : width ≤ 2 ^ rest

-- half of the starts, or one more, are left
left-at : (w v b n k rest : ℕ) → 1 < w → 2 * v ≤ w + 1 → n + rest ≡ b + k → w ≤ 2 ^ rest → Left v b (n + 1) k
left-at w v b n k zero more half e h = absurd (omega (arith, more, h))
left-at w v b n k (suc r) more half e h = record { rest = r; counted = omega (arith, e); enough = omega (arith, half, h, pow-suc 2 r) }

pub left-half : (w v b n k : ℕ) → 1 < w → 2 * v ≤ w + 1 → Left w b n k → Left v b (n + 1) k
left-half w v b n k more half l = left-at w v b n k l.rest more half l.counted l.enough

-- the last start at or before the position is one of those from `low` on and before `high`
pub record Among (starts : List ℕ) (pos low high before now : ℕ) : Type 0 where
  pub some : low < high
  pub within : high ≤ length starts
  pub at : get_or starts low 0 ≤ pos
  pub behind : high < length starts → pos < get_or starts high 0
  pub left : (k : ℕ) → length starts ≤ 2 ^ k → Left (high - low) before now k

module _ (starts : List ℕ) (pos low high before now middle next : ℕ) (a : Among starts pos low high before now) (more : 1 < high - low) (m : middle ≡ low + (high - low) / 2) (e : next ≡ now + 1) where
  pub among-upper : get_or starts middle 0 ≤ pos → Among starts pos middle high before next
  among-upper h = record {
    some = omega (arith, more, m);
    within = a.within;
    at = h;
    behind = a.behind;
    left = λ k l. let P : ℕ → Type 0 = λ z. Left (high - middle) before z k in subst P (sym e) (left-half (high - low) (high - middle) before now k more (omega (arith, m)) (a.left k l));
  }

  pub among-lower : pos < get_or starts middle 0 → Among starts pos low middle before next
  among-lower h = record {
    some = omega (arith, more, m);
    within = omega (arith, more, m, a.within);
    at = a.at;
    behind = λ _. h;
    left = λ k l. let P : ℕ → Type 0 = λ z. Left (middle - low) before z k in subst P (sym e) (left-half (high - low) (middle - low) before now k more (omega (arith, m)) (a.left k l));
  }

-- a number with so many binary digits is below that power of two
halvings-above : (most n : ℕ) → n ≤ most → n < 2 ^ halvings most n
halvings-above zero n h = omega (arith, h)
halvings-above (suc most) zero h = omega arith
halvings-above (suc most) (suc n) h = omega (arith, pow-suc 2 (halvings most (suc n / 2)), halvings-above most (suc n / 2) (omega (arith, h)))

pub digits-above : (n : ℕ) → n < 2 ^ digits n
unfolding digits
digits-above n = halvings-above n n (omega arith)
