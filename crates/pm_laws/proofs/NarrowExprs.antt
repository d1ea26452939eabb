-- The expression that a text says has no more parts side by side than the text has bytes, or the schema has types.
use Rattle.std.proofs.Common.{◌≡◌, ◌<◌, ◌≤◌, ◌+◌, ◌^◌, ℕ, suc, List, [], ◌∷◌, ◌++◌, length, length-append, map, Bool, true, false, refl, ap, arith}
use Rattle.std.specs.Prelude.{Option, Some, None, unwrap_or, Result, Ok, Err, if◌then◌else◌}
use Rattle.std.specs.List.{list_any, position_from}
use Rattle.std.specs.Str.{bytes_eq}
use Rattle.std.proofs.lemmas.List.{length-map}
use Rattle.pm_auto.specs.Tree as tree
use Rattle.pm_auto.specs.Tree.{Tree, Trees, gathered}
use Rattle.pm_expr.specs.declared.error.ExprError.{ExprError}
use Rattle.pm_expr.specs.Tokens.{Token, name, bracket, end_bracket, bar, plus, star, query, brace, end_brace, number, comma, stray, place, number_of, in_run, inside_after, sign, completed, onto, tokens_from, tokens}
use Rattle.pm_expr.specs.Names.{Named, joined, members, choice_of as choice_of_types, type_or_group, stands_for}
use Rattle.pm_expr.specs.Grammar.{said}
use Rattle.pm_expr.specs.Levels.{Levels, no_levels, counted, depth_flaw}
use Rattle.pm_expr.specs.Reader.{Frame, State, Point, outside, opened, low, parted, high, state, settled, sequence_of, choice_of, closed, with_last, after_token, repeated, in_braces, after_point, after, flaw_at, stepped, step, start, said_at_end, ◌>>=◌, unless_fault, outcome, expr_of}
use Rattle.pm_laws.proofs.Narrow.{parts, IsNarrow, AreNarrow}
use Rattle.pm_laws.proofs.ReadGives.{Gives, IfThere}

-- ---- tokens

completed-few : (inside : Bool) (at : ℕ) (run : List ℕ) (ts : List Token) → length (completed inside at run ts) ≤ length run + length ts
completed-few inside at [] ts = omega arith
completed-few inside at (b ∷ bs) ts = omega arith

onto-few : (o : Option Token) (ts : List Token) → length (onto o ts) ≤ suc (length ts)
onto-few None ts = omega arith
onto-few (Some t) ts = omega arith

either-few : (b : Bool) (n : ℕ) (ts us : List Token) → length ts ≤ n → length us ≤ n → length (if b then ts else us) ≤ n
either-few true n ts us h k = h
either-few false n ts us h k = k

tokens-few : (bytes : List ℕ) (inside : Bool) (at : ℕ) (run : List ℕ) → length (tokens_from inside at run bytes) ≤ length run + length bytes
tokens-few [] inside at run = completed-few inside at run []
tokens-few (b ∷ bytes) inside at run =
    let on = tokens-few bytes inside at (run ++ b ∷ []) in
    let rest = tokens-few bytes (inside_after inside b) (at + length run + 1) [] in
    let a = length-append run (b ∷ []) in
    let c = onto-few (sign (at + length run) b) (tokens_from (inside_after inside b) (at + length run + 1) [] bytes) in
    let d = completed-few inside at run (onto (sign (at + length run) b) (tokens_from (inside_after inside b) (at + length run + 1) [] bytes)) in
    either-few (in_run inside b) (length run + length (b ∷ bytes)) (tokens_from inside at (run ++ b ∷ []) bytes) _ (omega (arith, on, a)) (omega (arith, rest, c, d))

-- ---- lists of expressions

abbrev AllNarrow : List Tree → Type 0
AllNarrow [] = Unit {0}
AllNarrow (t ∷ ts) = IsNarrow t × AllNarrow ts

narrow-end : (ts : List Tree) (t : Tree) → AllNarrow ts → IsNarrow t → AllNarrow (ts ++ t ∷ [])
narrow-end [] t h k = (k, tt)
narrow-end (u ∷ ts) t h k = (h.0, narrow-end ts t h.1 k)

parts-gathered : (ts : List Tree) → parts (gathered ts) ≡ length ts
parts-gathered [] = refl
parts-gathered (t ∷ ts) = ap suc (parts-gathered ts)

gathered-narrow : (ts : List Tree) → AllNarrow ts → AreNarrow (gathered ts)
gathered-narrow [] h = tt
gathered-narrow (t ∷ ts) h = (h.0, gathered-narrow ts h.1)

-- a choice or a sequence of them
joined-narrow : (f : Trees → Tree) → ((ts : Trees) → parts ts < 2 ^ 63 → AreNarrow ts → IsNarrow (f ts)) → (ts : List Tree) → length ts < 2 ^ 63 → AllNarrow ts → IsNarrow (joined f ts)
joined-narrow f k [] l h = k (gathered []) (omega arith) tt
joined-narrow f k (t ∷ []) l h = h.0
joined-narrow f k (t ∷ u ∷ ts) l h = k (gathered (t ∷ u ∷ ts)) (let e = parts-gathered (t ∷ u ∷ ts) in omega (arith, e, l)) (gathered-narrow (t ∷ u ∷ ts) h)

-- ---- names

ones-narrow : (ks : List ℕ) → AllNarrow (map tree.one ks)
ones-narrow [] = tt
ones-narrow (k ∷ ks) = (tt, ones-narrow ks)

either-members : (b : Bool) (i n : ℕ) (ks : List ℕ) → length ks ≤ n → length (if b then i ∷ ks else ks) ≤ suc n
either-members true i n ks h = omega (arith, h)
either-members false i n ks h = omega (arith, h)

members-few : (i : ℕ) (types : List Named) (word : List ℕ) → length (members i types word) ≤ length types
members-few i [] word = omega arith
members-few i (n ∷ ns) word = either-members (list_any (bytes_eq word) n.groups) i (length ns) (members (i + 1) ns word) (members-few (i + 1) ns word)

choice-narrow : (ks : List ℕ) → length ks < 2 ^ 63 → IfThere IsNarrow (choice_of_types ks)
choice-narrow [] l = tt
choice-narrow (k ∷ ks) l = joined-narrow tree.choice (λ ts m h. (m, h)) (map tree.one (k ∷ ks)) (let e = length-map (k ∷ ks) tree.one in omega (arith, e, l)) (ones-narrow (k ∷ ks))

group-narrow : (types : List Named) (word : List ℕ) (o : Option ℕ) → length types < 2 ^ 63 → IfThere IsNarrow (type_or_group types word o)
group-narrow types word (Some i) l = tt
group-narrow types word None l = choice-narrow (members 0 types word) (let m = members-few 0 types word in omega (arith, m, l))

or-empty : (o : Option Tree) → IfThere IsNarrow o → IsNarrow (unwrap_or o tree.empty)
or-empty None h = tt
or-empty (Some t) h = h

said-narrow : (types : List Named) (word : List ℕ) → length types < 2 ^ 63 → IsNarrow (said types word)
said-narrow types word l = or-empty (stands_for types word) (group-narrow types word (position_from (λ n. bytes_eq word n.name) 0 types) l)

-- ---- states

-- at most so many, none of them broad
abbrev Fit : ℕ → List Tree → Type 0
Fit n ts = (length ts ≤ n) × AllNarrow ts

fit-more : (n : ℕ) (ts : List Tree) → Fit n ts → Fit (suc n) ts
fit-more n ts h = let l = h.0 in (omega (arith, l), h.1)

fit-end : (n : ℕ) (ts : List Tree) (t : Tree) → Fit n ts → IsNarrow t → Fit (suc n) (ts ++ t ∷ [])
fit-end n ts t h k = let l = h.0 in let e = length-append ts (t ∷ []) in (omega (arith, l, e), narrow-end ts t h.1 k)

fit-none : (n : ℕ) → Fit n []
fit-none n = (omega arith, tt)

abbrev FitFrames : ℕ → List Frame → Type 0
FitFrames n [] = Unit {0}
FitFrames n (f ∷ fs) = (Fit n f.done × Fit n f.items) × FitFrames n fs

frames-more : (n : ℕ) (fs : List Frame) → FitFrames n fs → FitFrames (suc n) fs
frames-more n [] h = tt
frames-more n (f ∷ fs) h = ((fit-more n f.done h.0.0, fit-more n f.items h.0.1), frames-more n fs h.1)

record FitState (n : ℕ) (s : State) : Type 0 where
  over : FitFrames n s.over
  done : Fit n s.done
  items : Fit n s.items
  last : IfThere IsNarrow s.last

fit-settled : (n : ℕ) (items : List Tree) (last : Option Tree) → Fit n items → IfThere IsNarrow last → Fit (suc n) (settled items last)
fit-settled n items None h k = fit-more n items h
fit-settled n items (Some e) h k = fit-end n items e h k

module _ (n : ℕ) (room : suc n < 2 ^ 63) where
  seq-narrow : (items : List Tree) (e : Tree) → Fit n items → IsNarrow e → IsNarrow (sequence_of items e)
  seq-narrow items e h k = let f = fit-end n items e h k in let l = f.0 in joined-narrow tree.seq (λ ts m x. (m, x)) (items ++ e ∷ []) (omega (arith, l, room)) f.1

  chosen-narrow : (done items : List Tree) (e : Tree) → Fit n done → Fit n items → IsNarrow e → IsNarrow (choice_of done items e)
  chosen-narrow done items e d h k =
      let f = fit-end n done (sequence_of items e) d (seq-narrow items e h k) in
      let l = f.0 in
      joined-narrow tree.choice (λ ts m x. (m, x)) (done ++ sequence_of items e ∷ []) (omega (arith, l, room)) f.1

  closed-fits : (over : List Frame) (done items : List Tree) (last : Option Tree) → FitFrames n over → Fit n done → Fit n items → IfThere IsNarrow last → IfThere (FitState (suc n)) (closed over done items last)
  closed-fits over done items None o d i l = tt
  closed-fits [] done items (Some e) o d i l = tt
  closed-fits (f ∷ fs) done items (Some e) o d i l = record { over = frames-more n fs o.1; done = fit-more n f.done o.0.0; items = fit-more n f.items o.0.1; last = chosen-narrow done items e d i l }

  last-fits : (last : Option Tree) (f : Tree → State) → IfThere IsNarrow last → ((e : Tree) → IsNarrow e → FitState (suc n) (f e)) → IfThere (FitState (suc n)) (with_last last f)
  last-fits None f l k = tt
  last-fits (Some e) f l k = k e l

  module _ (types : List Named) (small : length types < 2 ^ 63) where
    token-fits : (over : List Frame) (done items : List Tree) (last : Option Tree) (t : Token) → FitFrames n over → Fit n done → Fit n items → IfThere IsNarrow last → IfThere (FitState (suc n)) (after_token types over done items last t)
    token-fits over done items last (name at w) o d i l = record { over = frames-more n over o; done = fit-more n done d; items = fit-settled n items last i l; last = said-narrow types w small }
    token-fits over done items last (bracket at) o d i l = record { over = ((fit-more n done d, fit-settled n items last i l), frames-more n over o); done = fit-none (suc n); items = fit-none (suc n); last = tt }
    token-fits over done items last (end_bracket at) o d i l = closed-fits over done items last o d i l
    token-fits over done items last (bar at) o d i l =
        last-fits last (λ e. state over (done ++ sequence_of items e ∷ []) [] None outside) l
        (λ e h. record { over = frames-more n over o; done = fit-end n done (sequence_of items e) d (seq-narrow items e i h); items = fit-none (suc n); last = tt })
    token-fits over done items last (plus at) o d i l =
        last-fits last (λ e. state over done items (Some (tree.plus e)) outside) l (λ e h. record { over = frames-more n over o; done = fit-more n done d; items = fit-more n items i; last = h })
    token-fits over done items last (star at) o d i l =
        last-fits last (λ e. state over done items (Some (tree.star e)) outside) l (λ e h. record { over = frames-more n over o; done = fit-more n done d; items = fit-more n items i; last = h })
    token-fits over done items last (query at) o d i l =
        last-fits last (λ e. state over done items (Some (tree.opt e)) outside) l (λ e h. record { over = frames-more n over o; done = fit-more n done d; items = fit-more n items i; last = h })
    token-fits over done items last (brace at) o d i l =
        last-fits last (λ e. state over done items (Some e) (opened at)) l (λ e h. record { over = frames-more n over o; done = fit-more n done d; items = fit-more n items i; last = h })
    token-fits over done items last (end_brace at) o d i l = tt
    token-fits over done items last (number at w) o d i l = tt
    token-fits over done items last (comma at) o d i l = tt
    token-fits over done items last (stray at) o d i l = tt

    braces-fit : (s : State) (p : Point) → FitState n s → FitState (suc n) (in_braces s p)
    braces-fit s p h = record { over = frames-more n s.over h.over; done = fit-more n s.done h.done; items = fit-more n s.items h.items; last = h.last }

    again-fits : (over : List Frame) (done items : List Tree) (last : Option Tree) (p : Point) (k : ℕ) (m : Option ℕ) → FitFrames n over → Fit n done → Fit n items → IfThere IsNarrow last
        → FitState (suc n) (repeated (state over done items last p) k m)
    again-fits over done items None p k m o d i l = record { over = frames-more n over o; done = fit-more n done d; items = fit-more n items i; last = tt }
    again-fits over done items (Some e) p k m o d i l = record { over = frames-more n over o; done = fit-more n done d; items = fit-more n items i; last = l }

    repeated-fits : (s : State) (k : ℕ) (m : Option ℕ) → FitState n s → FitState (suc n) (repeated s k m)
    repeated-fits s k m h = again-fits s.over s.done s.items s.last s.point k m h.over h.done h.items h.last

    point-fits : (s : State) (p : Point) (t : Token) → FitState n s → IfThere (FitState (suc n)) (after_point types s p t)
    point-fits s outside t h = token-fits s.over s.done s.items s.last t h.over h.done h.items h.last
    point-fits s (opened a) (name at w) h = tt
    point-fits s (opened a) (bracket at) h = tt
    point-fits s (opened a) (end_bracket at) h = tt
    point-fits s (opened a) (bar at) h = tt
    point-fits s (opened a) (plus at) h = tt
    point-fits s (opened a) (star at) h = tt
    point-fits s (opened a) (query at) h = tt
    point-fits s (opened a) (brace at) h = tt
    point-fits s (opened a) (end_brace at) h = tt
    point-fits s (opened a) (number at w) h = braces-fit s (low a (number_of w)) h
    point-fits s (opened a) (comma at) h = tt
    point-fits s (opened a) (stray at) h = tt
    point-fits s (low a k) (name at w) h = tt
    point-fits s (low a k) (bracket at) h = tt
    point-fits s (low a k) (end_bracket at) h = tt
    point-fits s (low a k) (bar at) h = tt
    point-fits s (low a k) (plus at) h = tt
    point-fits s (low a k) (star at) h = tt
    point-fits s (low a k) (query at) h = tt
    point-fits s (low a k) (brace at) h = tt
    point-fits s (low a k) (end_brace at) h = repeated-fits s k (Some k) h
    point-fits s (low a k) (number at w) h = tt
    point-fits s (low a k) (comma at) h = braces-fit s (parted a k) h
    point-fits s (low a k) (stray at) h = tt
    point-fits s (parted a k) (name at w) h = tt
    point-fits s (parted a k) (bracket at) h = tt
    point-fits s (parted a k) (end_bracket at) h = tt
    point-fits s (parted a k) (bar at) h = tt
    point-fits s (parted a k) (plus at) h = tt
    point-fits s (parted a k) (star at) h = tt
    point-fits s (parted a k) (query at) h = tt
    point-fits s (parted a k) (brace at) h = tt
    point-fits s (parted a k) (end_brace at) h = repeated-fits s k None h
    point-fits s (parted a k) (number at w) h = braces-fit s (high a k (number_of w)) h
    point-fits s (parted a k) (comma at) h = tt
    point-fits s (parted a k) (stray at) h = tt
    point-fits s (high a k m) (name at w) h = tt
    point-fits s (high a k m) (bracket at) h = tt
    point-fits s (high a k m) (end_bracket at) h = tt
    point-fits s (high a k m) (bar at) h = tt
    point-fits s (high a k m) (plus at) h = tt
    point-fits s (high a k m) (star at) h = tt
    point-fits s (high a k m) (query at) h = tt
    point-fits s (high a k m) (brace at) h = tt
    point-fits s (high a k m) (end_brace at) h = repeated-fits s k (Some m) h
    point-fits s (high a k m) (number at w) h = tt
    point-fits s (high a k m) (comma at) h = tt
    point-fits s (high a k m) (stray at) h = tt

  end-narrow : (size : ℕ) (p : Point) (over : List Frame) (last : Option Tree) (done items : List Tree) → Fit n done → Fit n items → IfThere IsNarrow last → Gives IsNarrow (said_at_end size p over last done items)
  end-narrow size outside [] (Some e) done items d i l = chosen-narrow done items e d i l
  end-narrow size outside [] None [] [] d i l = tt
  end-narrow size outside [] None [] (x ∷ rest) d i l = tt
  end-narrow size outside [] None (x ∷ rest) items d i l = tt
  end-narrow size outside (o ∷ os) last done items d i l = tt
  end-narrow size (opened a) over last done items d i l = tt
  end-narrow size (low a k) over last done items d i l = tt
  end-narrow size (parted a k) over last done items d i l = tt
  end-narrow size (high a k m) over last done items d i l = tt

step-fits : (at n : ℕ) (f : Option ExprError) (z : Option State) → IfThere (FitState n) z → Gives (FitState n) (stepped at f z)
step-fits at n f None h = tt
step-fits at n None (Some s) h = h
step-fits at n (Some f) (Some s) h = tt

unless-narrow : (f : Option ExprError) (r : Result Tree ExprError) → Gives IsNarrow r → Gives IsNarrow (unless_fault f r)
unless-narrow None r h = h
unless-narrow (Some f) r h = tt

module _ (types : List Named) (small : length types < 2 ^ 63) (size : ℕ) where
  outcome-narrow : (ts : List Token) (n : ℕ) (l : Levels) (s : State) → suc (n + length ts) < 2 ^ 63 → FitState n s → Gives IsNarrow (outcome types size ts l s)
  outcome-narrow [] n l s room h = end-narrow n (omega (arith, room)) size s.point s.over s.last s.done s.items h.done h.items h.last
  outcome-narrow (t ∷ ts) n l s room h =
      go (step types s t) (step-fits (place t) (suc n) (flaw_at types s.point t) (after types s t) (point-fits n (omega (arith, room)) types small s s.point t h)) (λ z k. outcome-narrow ts (suc n) (counted l t) z (omega (arith, room)) k)
    where
      go : (r : Result State ExprError) → Gives (FitState (suc n)) r → ((z : State) → FitState (suc n) z → Gives IsNarrow (outcome types size ts (counted l t) z))
          → Gives IsNarrow (r >>= (λ z. unless_fault (depth_flaw l t) (outcome types size ts (counted l t) z)))
      go (Ok z) k rest = unless-narrow (depth_flaw l t) (outcome types size ts (counted l t) z) (rest z k)
      go (Err e) k rest = tt

pub expr-narrow : (types : List Named) (text : List ℕ) → length types < 2 ^ 63 → suc (length text) < 2 ^ 63 → Gives IsNarrow (expr_of types text)
expr-narrow types text small room =
    let few = tokens-few text false 0 [] in
    outcome-narrow types small (length text) (tokens text) 0 no_levels start (omega (arith, few, room)) (record { over = tt; done = fit-none 0; items = fit-none 0; last = tt })
