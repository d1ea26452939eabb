-- Each place of what is left of an expansion leads on to an end.
use Rattle.std.proofs.Common.{◌≡◌, ℕ, ◌+◌, List, [], ◌∷◌, ◌++◌, Bool, true, false, ◌&&◌, cond, refl, inl, inr, ◌⊎◌}
use Rattle.pm_auto.specs.Core.{Core, Never, Empty, One, Alt, Cat, Loop, Lang, Place, after}
use Rattle.pm_auto.specs.Table.{width}
use Rattle.pm_auto.specs.Trim.{has_list, trim}
use Rattle.pm_auto.proofs.HasLaws.{and-both, or-split}
use Rattle.pm_places.specs.Words.{numbered}

-- it has a list
abbrev pub Lives : Core → Type 0
Lives Never = ⊥
Lives Empty = Unit {0}
Lives (One k) = Unit {0}
Lives (Alt a b) = Lives a ⊎ Lives b
Lives (Cat a b) = Lives a × Lives b
Lives (Loop a) = Lives a

-- what stands after another part has a list
abbrev pub Goes_on : Core → Type 0
Goes_on Never = Unit {0}
Goes_on Empty = Unit {0}
Goes_on (One k) = Unit {0}
Goes_on (Alt a b) = Goes_on a × Goes_on b
Goes_on (Cat a b) = Goes_on a × (Goes_on b × Lives b)
Goes_on (Loop a) = Goes_on a

-- a list of an expression
abbrev pub Listed : Core → Type 0
Listed e = (w : List ℕ) × Lang e w

pub lives-list : (e : Core) → Lives e → Listed e
lives-list Never h = absurd h
lives-list Empty h = ([], refl)
lives-list (One k) h = (k ∷ [], refl)
lives-list (Alt a b) (inl h) = let l = lives-list a h in (l.0, inl l.1)
lives-list (Alt a b) (inr h) = let l = lives-list b h in (l.0, inr l.1)
lives-list (Cat a b) h = let l = lives-list a h.0 in let r = lives-list b h.1 in (l.0 ++ r.0, record { left = l.0; right = r.0; is = refl; in_left = l.1; in_right = r.1 })
lives-list (Loop a) h = let l = lives-list a h in (l.0 ++ [], (0, record { left = l.0; right = []; is = refl; in_left = l.1; in_right = refl }))

-- each place leads on to an end
pub after-list : (e : Core) → Goes_on e → (p : Place e) → Listed (after e p)
after-list Never h p = absurd p
after-list Empty h p = absurd p
after-list (One k) h p = ([], refl)
after-list (Alt a b) h (inl p) = after-list a h.0 p
after-list (Alt a b) h (inr p) = after-list b h.1 p
after-list (Cat a b) h (inl p) = let l = after-list a h.0 p in let r = lives-list b h.1.1 in (l.0 ++ r.0, record { left = l.0; right = r.0; is = refl; in_left = l.1; in_right = r.1 })
after-list (Cat a b) h (inr p) = after-list b h.1.0 p
after-list (Loop a) h p = let l = after-list a h p in (l.0 ++ [], record { left = l.0; right = []; is = refl; in_left = l.1; in_right = inl refl })

pub lives-numbered : (n : ℕ) (e : Core) → Lives e → Lives (numbered n e)
lives-numbered n Never h = h
lives-numbered n Empty h = h
lives-numbered n (One k) h = h
lives-numbered n (Alt a b) (inl h) = inl (lives-numbered n a h)
lives-numbered n (Alt a b) (inr h) = inr (lives-numbered (n + width a) b h)
lives-numbered n (Cat a b) h = (lives-numbered n a h.0, lives-numbered (n + width a) b h.1)
lives-numbered n (Loop a) h = lives-numbered n a h

pub goes-numbered : (n : ℕ) (e : Core) → Goes_on e → Goes_on (numbered n e)
goes-numbered n Never h = h
goes-numbered n Empty h = h
goes-numbered n (One k) h = h
goes-numbered n (Alt a b) h = (goes-numbered n a h.0, goes-numbered (n + width a) b h.1)
goes-numbered n (Cat a b) h = (goes-numbered n a h.0, (goes-numbered (n + width a) b h.1.0, lives-numbered (n + width a) b h.1.1))
goes-numbered n (Loop a) h = goes-numbered n a h

pub trim-lives : (e : Core) → has_list e ≡ true → Lives (trim e)
trim-lives Never h = absurd (cc)
trim-lives Empty h = tt
trim-lives (One k) h = tt
trim-lives (Alt a b) h = at (or-split (has_list a) (has_list b) h) (trim-lives a) (trim-lives b)
  where
    at : (has_list a ≡ true) ⊎ (has_list b ≡ true) → (has_list a ≡ true → Lives (trim a)) → (has_list b ≡ true → Lives (trim b)) → Lives (trim a) ⊎ Lives (trim b)
    at (inl h) f g = inl (f h)
    at (inr h) f g = inr (g h)
trim-lives (Cat a b) h = at (has_list a && has_list b) h (trim-lives a n.0) (trim-lives b n.1)
  where
    n : (has_list a ≡ true) × (has_list b ≡ true)
    n = and-both (has_list a) (has_list b) h

    at : (c : Bool) → c ≡ true → Lives (trim a) → Lives (trim b) → Lives (cond c (Cat (trim a) (trim b)) Never)
    at true e f g = (f, g)
    at false e f g = absurd (cc)
trim-lives (Loop a) h = trim-lives a h

-- after each part of what is left of an expansion a list goes on
pub trim-goes : (e : Core) → Goes_on (trim e)
trim-goes Never = tt
trim-goes Empty = tt
trim-goes (One k) = tt
trim-goes (Alt a b) = (trim-goes a, trim-goes b)
trim-goes (Cat a b) = at (has_list a && has_list b) refl (trim-goes a) (trim-goes b)
  where
    at : (c : Bool) → has_list a && has_list b ≡ c → Goes_on (trim a) → Goes_on (trim b) → Goes_on (cond c (Cat (trim a) (trim b)) Never)
    at true e f g = (f, (g, trim-lives b ((and-both (has_list a) (has_list b) e).1)))
    at false e f g = tt
trim-goes (Loop a) = trim-goes a
