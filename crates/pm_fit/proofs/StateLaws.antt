-- States of automata, and wrappings.
use Rattle.std.specs.Prelude.{◌≡◌, ℕ, ◌+◌, ◌≤◌, ◌<◌, Bool, Option, Some, None, option_and_then, List, map, length, drop, get_or}
use Rattle.std.proofs.Common.{ap, sym, ◌∙◌, arith}
use Rattle.std.proofs.lemmas.List.{at_drop_more, drop_all}
use Rattle.std.proofs.lemmas.Option.{slice_get_read, slice_get_past}
use Rattle.pm_auto.specs.declared.auto.Edge.{Edge}
use Rattle.pm_auto.specs.declared.auto.Auto.{Auto}
use Rattle.pm_auto.specs.Walks.{target, edges_at}
use Rattle.pm_auto.specs.Graph.{Is_shortest}
use Rattle.pm_auto.specs.Wraps.{wrap_links, wrap_goals}
use Rattle.pm_tokens.specs.Tokens.{Token, Doc}
use Rattle.pm_schema.specs.declared.schema.Schema.{Schema}
use Rattle.pm_schema.specs.Made.{can_wrap}
use Rattle.pm_schema.specs.Documents.{documents_of}
use Rattle.pm_fit.specs.Wrappings.{first_type, parent_at, before_in, state_after, wrapping_in, wrapping_of, wrapping_at}
use Rattle.pm_fit.specs.Paths.{shortest}
use Rattle.pm_fit.proofs.PathLaws.{wrapping-is}

module _ (ess : List (List Edge)) (types : List ℕ) (i k s : ℕ) (h : i < length types) (e : k ≡ get_or types i 0) where
  here : state_after ess s (drop i types) ≡ option_and_then (λ t. state_after ess t (drop (i + 1) types)) (target k (edges_at ess s))
  here = at_drop_more (state_after ess s) types i 0 h ∙ ap (λ j. option_and_then (λ t. state_after ess t (drop (i + 1) types)) (target j (edges_at ess s))) (sym e)

  -- the state leads on
  pub state-more : (t : ℕ) → target k (edges_at ess s) ≡ Some t → state_after ess 0 types ≡ state_after ess s (drop i types) → state_after ess 0 types ≡ state_after ess t (drop (i + 1) types)
  state-more t q v = v ∙ (here ∙ ap (option_and_then (λ t. state_after ess t (drop (i + 1) types))) q)

  -- the state leads nowhere
  pub state-stop : target k (edges_at ess s) ≡ None → state_after ess 0 types ≡ state_after ess s (drop i types) → None ≡ state_after ess 0 types
  state-stop q v = sym (v ∙ (here ∙ ap (option_and_then (λ t. state_after ess t (drop (i + 1) types))) q))

module _ (s : Schema) (kind : ℕ) (before : List ℕ) (to : ℕ) where
  pub wrapping-unknown : length s.spec.nodes ≤ kind → None ≡ wrapping_of s kind before to
  wrapping-unknown h =
      let past : length s.autos ≤ kind = omega (arith, h, s.full) in
      sym (ap (option_and_then (λ (a : Auto). wrapping_in s a before to)) (slice_get_past s.autos kind past))

  module _ (a : Auto) (l : kind < length s.spec.nodes) (e : a ≡ get_or s.autos kind a) where
    known : wrapping_of s kind before to ≡ wrapping_in s a before to
    known = ap (option_and_then (λ (b : Auto). wrapping_in s b before to)) (slice_get_read s.autos (length s.spec.nodes) kind a (sym s.full) l e)

    -- the wrapping from a state on
    abbrev from : Option ℕ → Option (List ℕ)
    from = option_and_then (λ state. shortest (wrap_links a state s.autos (map can_wrap s.spec.nodes)) (wrap_goals a state to s.autos) (length s.autos))

    pub wrapping-none : None ≡ state_after a.edges 0 before → None ≡ wrapping_of s kind before to
    wrapping-none q = ap from q ∙ sym known

    pub wrapping-some : (state : ℕ) (autos : List Auto) (may : List Bool) (w : Option (List ℕ)) → Some state ≡ state_after a.edges 0 before → autos ≡ s.autos → may ≡ map can_wrap s.spec.nodes
        → Is_shortest (wrap_links a state autos may) (wrap_goals a state to autos) (length autos) w → w ≡ wrapping_of s kind before to
    wrapping-some state autos may w q x y h =
        wrapping-is a state to autos may w h
        ∙ (ap (λ (z : List Bool). shortest (wrap_links a state autos z) (wrap_goals a state to autos) (length autos)) y
        ∙ (ap (λ (z : List Auto). shortest (wrap_links a state z (map can_wrap s.spec.nodes)) (wrap_goals a state to z) (length z)) x
        ∙ (ap from q ∙ sym known)))

-- the wrapping at a position
pub wrapping-at : (s : Schema) (d : Doc) (p : ℕ) (content : List Token) (kind : ℕ) (before : List ℕ) (to : ℕ) (w : Option (List ℕ)) → Some to ≡ first_type (documents_of s.spec).text content → kind ≡ (parent_at d p).kind → before ≡ before_in (documents_of s.spec).text d p
    → w ≡ wrapping_of s kind before to → w ≡ wrapping_at s d p content
wrapping-at s d p content kind before to w f k b h =
    h ∙ (ap (λ (z : ℕ). wrapping_of s z before to) k
    ∙ (ap (λ (z : List ℕ). wrapping_of s (parent_at d p).kind z to) b
    ∙ ap (option_and_then (wrapping_of s (parent_at d p).kind (before_in (documents_of s.spec).text d p))) f))
