-- Nodes that are read one by one: the tokens of those that were read, and then of the rest.
use Rattle.std.proofs.Common.{◌≡◌, ℕ, suc, ◌+◌, ◌<◌, List, [], ◌∷◌, ◌++◌, length, map, take, drop, drop-cons, get_or, refl, ap, sym, ◌∙◌, append_assoc, add-one, length-append}
use Rattle.std.proofs.Math.Seq.{take-suc}
use Rattle.std.proofs.lemmas.List.{append-nil}
use Rattle.std.specs.Prelude.{Result, Ok, Err}
use Rattle.serde_json.specs.Data.{Data, Items, item}
use Rattle.serde_json.specs.View.{items_of}
use Rattle.pm_list.specs.Readings.{◌>>=◌}
use Rattle.pm_schema.specs.declared.spec.SchemaSpec.{SchemaSpec}
use Rattle.pm_tokens.specs.Tokens.{Token}
use Rattle.pm_node.specs.Trees.{node_tokens, nodes_tokens}
use Rattle.pm_node.specs.declared.node.Node.{Node}
use Rattle.pm_docjson.specs.declared.leaves.LeafContent.{LeafContent}
use Rattle.pm_docjson.specs.declared.fault.DocReadError.{DocReadError}
use Rattle.pm_docjson.specs.Reading.{node_of, node_list}

abbrev pub with_tokens : List Token → Result (List Token) DocReadError → Result (List Token) DocReadError
with_tokens front (Ok rest) = Ok (front ++ rest)
with_tokens front (Err e) = Err e

pub with_tokens-none : (r : Result (List Token) DocReadError) → with_tokens [] r ≡ r
with_tokens-none (Ok rest) = refl
with_tokens-none (Err e) = refl

pub nodes_tokens-last : (ns : List Node) (n : Node) → nodes_tokens (ns ++ n ∷ []) ≡ nodes_tokens ns ++ node_tokens n
nodes_tokens-last [] n = append-nil (node_tokens n)
nodes_tokens-last (x ∷ ns) n = ap (λ ts. node_tokens x ++ ts) (nodes_tokens-last ns n) ∙ sym (append_assoc (node_tokens x) (nodes_tokens ns) (node_tokens n))

with_tokens-more : (front more : List Token) (r : Result (List Token) DocReadError) → with_tokens (front ++ more) r ≡ with_tokens front (with_tokens more r)
with_tokens-more front more (Ok rest) = ap Ok (append_assoc front more rest)
with_tokens-more front more (Err e) = refl

node_list-opened : (s : SchemaSpec) (l : LeafContent) (d : Data) (ds : Items) (n : Node) → node_of s l d ≡ Ok n → node_list s l (item d ds) ≡ with_tokens (node_tokens n) (node_list s l ds)
unfolding node_list
node_list-opened s l d ds n is = rw is (given (node_list s l ds))
  where
    given : (r : Result (List Token) DocReadError) → (r >>= λ rest. Ok (node_tokens n ++ rest)) ≡ with_tokens (node_tokens n) r
    given (Ok rest) = refl
    given (Err e) = refl

-- one more node
pub node_list-more : (s : SchemaSpec) (l : LeafContent) (ns : List Node) (n : Node) (d : Data) (ds : Items) → node_of s l d ≡ Ok n
    → with_tokens (nodes_tokens (ns ++ n ∷ [])) (node_list s l ds) ≡ with_tokens (nodes_tokens ns) (node_list s l (item d ds))
node_list-more s l ns n d ds is =
    ap (λ front. with_tokens front (node_list s l ds)) (nodes_tokens-last ns n)
    ∙ with_tokens-more (nodes_tokens ns) (node_tokens n) (node_list s l ds)
    ∙ ap (with_tokens (nodes_tokens ns)) (sym (node_list-opened s l d ds n is))

pub with_tokens-all : (front : List Token) → with_tokens front (Ok []) ≡ Ok front
with_tokens-all front = ap Ok (append-nil front)

pub ruleset token_fronts = (with_tokens-none, node_list-more, with_tokens-all)

-- how many tokens one more node gives
pub tokens-more : (ns : List Node) (i : ℕ) (n : Node) → i < length ns → n ≡ get_or ns i n → length (nodes_tokens (take (i + 1) ns)) ≡ length (nodes_tokens (take i ns)) + length (node_tokens n)
tokens-more ns i n within is =
    let taken : take (i + 1) ns ≡ take i ns ++ n ∷ [] = rw add-one (take-suc ns i n within ∙ ap (λ x. take i ns ++ x ∷ []) (sym is)) in
    ap (λ xs. length (nodes_tokens xs)) taken ∙ ap length (nodes_tokens-last (take i ns) n) ∙ length-append (nodes_tokens (take i ns)) (node_tokens n)

pub node_list-step : {X : Type 0} (seen : X → Data) (s : SchemaSpec) (l : LeafContent) (ns ms : List Node) (n : Node) (xs : List X) (i : ℕ) (x : X) (whole : Result (List Token) DocReadError) → i < length xs → x ≡ get_or xs i x → node_of s l (seen x) ≡ Ok n → ms ≡ ns ++ n ∷ []
    → with_tokens (nodes_tokens ns) (node_list s l (items_of (map seen (drop i xs)))) ≡ whole → with_tokens (nodes_tokens ms) (node_list s l (items_of (map seen (drop (i + 1) xs)))) ≡ whole
node_list-step seen s l ns ms n xs i x whole within is read more h =
    let split : drop i xs ≡ x ∷ drop (i + 1) xs = rw add-one (drop-cons xs i x within ∙ ap (λ y. y ∷ drop (suc i) xs) (sym is)) in
    ap (λ ys. with_tokens (nodes_tokens ys) (node_list s l (items_of (map seen (drop (i + 1) xs))))) more
    ∙ node_list-more s l ns n (seen x) (items_of (map seen (drop (i + 1) xs))) read
    ∙ ap (λ ys. with_tokens (nodes_tokens ns) (node_list s l (items_of (map seen ys)))) (sym split)
    ∙ h
