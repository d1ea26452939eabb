-- A range that is a whole number of nodes, with a whole number of nodes in its place.
use Rattle.std.specs.Prelude.{◌≡◌, ℕ, ◌+◌, ◌-◌, Bool, true, List, [], ◌++◌, length, take, drop}
use Rattle.std.proofs.Common.{ap, sym, ◌∙◌, arith, append_assoc, length-append}
use Rattle.std.proofs.lemmas.List.{take_at, drop_at}
use Rattle.pm_tokens.specs.Tokens.{Token}
use Rattle.pm_tokens.specs.Scan.{Owned, Balanced, owned, plain, joins, unclosed}
use Rattle.pm_tokens.specs.Slices.{Slice, slice_owned, spliced}
use Rattle.pm_tokens.proofs.ScanLaws.{owned-append, length-owned, plain-owned}
use Rattle.pm_tokens.proofs.ListLaws.{part_all}
use Rattle.pm_tokens.proofs.BalanceLaws.{unclosed-balanced, owned-balanced, joins-balanced}
use Rattle.pm_build.specs.Placing.{Placed}
use Rattle.pm_replace.specs.Splices.{IsWhole}

module _ (sl : Slice) (start : sl.open_start ≡ 0) (end : sl.open_end ≡ 0) where
  -- the tokens of a slice with no open side
  closed-owned : slice_owned sl ≡ owned [] sl.content
  closed-owned = part_all sl.open_start (length sl.content - sl.open_end) (owned [] sl.content) start (omega (arith, end, length-owned [] sl.content))

  module _ (before after : List Token) (from to : ℕ) (p : Placed before from to sl.content after) (new : Balanced sl.content) where
    abbrev open_there : List ℕ
    open_there = unclosed [] p.front

    owned-there : (mid : List Token) → Balanced mid → owned [] (p.front ++ (mid ++ p.rest)) ≡ owned [] p.front ++ (owned [] mid ++ owned open_there p.rest)
    owned-there mid w =
        owned-append [] p.front (mid ++ p.rest) ∙ ap (λ z. owned [] p.front ++ z)
        (owned-append open_there mid p.rest ∙ (ap (λ z. z ++ owned (unclosed open_there mid) p.rest) (owned-balanced open_there [] w) ∙ ap (λ s. owned [] mid ++ owned s p.rest) (unclosed-balanced open_there w)))

    was : owned [] before ≡ owned [] p.front ++ (owned [] p.gone ++ owned open_there p.rest)
    was = ap (owned []) p.was ∙ owned-there p.gone p.whole

    front-owned : take from (owned [] before) ≡ owned [] p.front
    front-owned = ap (take from) was ∙ take_at (owned [] p.front) (owned [] p.gone ++ owned open_there p.rest) from (length-owned [] p.front ∙ p.at_from)

    rest-owned : drop to (owned [] before) ≡ owned open_there p.rest
    rest-owned =
        ap (drop to) (was ∙ sym (append_assoc (owned [] p.front) (owned [] p.gone) (owned open_there p.rest)))
        ∙ drop_at (owned [] p.front ++ owned [] p.gone) (owned open_there p.rest) to (omega (arith, length-append (owned [] p.front) (owned [] p.gone), length-owned [] p.front, length-owned [] p.gone, p.at_from, p.at_to))

    -- it joins with nothing
    pub placed-spliced : spliced before from to sl ≡ owned [] after
    placed-spliced =
        ap (λ z. z ++ (slice_owned sl ++ drop to (owned [] before))) front-owned
        ∙ (ap (λ z. owned [] p.front ++ (z ++ drop to (owned [] before))) closed-owned
        ∙ (ap (λ z. owned [] p.front ++ (owned [] sl.content ++ z)) rest-owned
        ∙ (sym (owned-there sl.content new) ∙ ap (owned []) (sym p.is))))

    pub placed-whole : Balanced after → IsWhole (spliced before from to sl) after
    placed-whole b = record { owners = placed-spliced; whole = b }

-- what is such a list joins, and is its tokens
pub whole-joins : (c : ℕ → ℕ → Bool) → ((k : ℕ) → c k k ≡ true) → (piece : List Owned) (ts : List Token) → IsWhole piece ts → joins c [] piece ≡ true
whole-joins c r piece ts w = ap (joins c []) w.owners ∙ joins-balanced c r [] [] w.whole

pub whole-plain : (piece : List Owned) (ts : List Token) → IsWhole piece ts → ts ≡ plain piece
whole-plain piece ts w = sym (ap plain w.owners ∙ plain-owned [] ts)
