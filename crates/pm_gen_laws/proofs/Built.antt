-- A schema is built of the generated types.
use Rattle.std.proofs.Common.{◌≡◌, zero, suc, ◌<◌, List, [], ◌∷◌, map, Bool, true, false, Global, inl, inr, refl, sym, arith, true≢false}
use Rattle.pm_auto.specs.declared.expr.Expr.{Expr, Empty}
use Rattle.pm_auto.specs.declared.error.AutoError.TheVariants.{TooWide}
use Rattle.pm_auto.specs.declared.auto.Auto.{Auto}
use Rattle.pm_auto.specs.Expand.{expand}
use Rattle.pm_auto.specs.Table.{width}
use Rattle.pm_auto.specs.States.{edge_kinds}
use Rattle.pm_auto.specs.Walks.{edges_at}
use Rattle.pm_auto.specs.Built.{Is_fault}
use Rattle.pm_auto.proofs.AcceptLaws.{accepted-fits}
use Rattle.pm_schema.specs.declared.schema.Schema.{Schema}
use Rattle.pm_schema.specs.Types.{names_of_nodes, names_of_marks}
use Rattle.pm_schema.specs.Contents.{starts, Runs, All_run}
use Rattle.pm_schema.specs.MarkTexts.{allowed_row, exclude_table}
use Rattle.pm_schema.specs.Made.{can_wrap}
use Rattle.pm_schema.specs.Refusals.{inline_table, IsNamed, HasAutomata}
use Rattle.pm_schema.specs.Generated.{IsAutoOf, AutosOf, CanBeFilled, filled, no_type, and_type, HasFilled, IsClosed, IsGeneratable, Finishing, AllFinishing}
use Rattle.pm_schema.specs.Built.{IsBuilt}
use Rattle.pm_schema.proofs.Rounds.{generated}
use Rattle.pm_gen_laws.proofs.Spec.{nodes, spec, some_blocks, any_inlines, items, item_content}
use Rattle.pm_gen_laws.proofs.Autos.{blocks_auto, inlines_auto, items_auto, item_auto, empty_auto, is-blocks, is-inlines, is-items, is-item, is-empty, Many, few-blocks, few-inlines, few-items, few-item, few-empty}

abbrev pub autos : List Auto
autos = blocks_auto ∷ inlines_auto ∷ blocks_auto ∷ inlines_auto ∷ items_auto ∷ item_auto ∷ empty_auto ∷ empty_auto ∷ []

abbrev pub table : List Bool
table = true ∷ true ∷ true ∷ true ∷ true ∷ true ∷ false ∷ false ∷ []

wrong : {P : Type 0} → false ≡ true → P
wrong e = absurd (true≢false (sym e))

-- ---- the ends of the automata

blocks-finish : Finishing table blocks_auto
blocks-finish zero l = record { list = 1 ∷ []; makeable = refl; ends = refl }
blocks-finish (suc zero) l = record { list = []; makeable = refl; ends = refl }
blocks-finish (suc (suc s)) l = absurd (omega arith)

inlines-finish : Finishing table inlines_auto
inlines-finish zero l = record { list = []; makeable = refl; ends = refl }
inlines-finish (suc s) l = absurd (omega arith)

items-finish : Finishing table items_auto
items-finish zero l = record { list = 5 ∷ []; makeable = refl; ends = refl }
items-finish (suc zero) l = record { list = []; makeable = refl; ends = refl }
items-finish (suc (suc s)) l = absurd (omega arith)

item-finish : Finishing table item_auto
item-finish zero l = record { list = 1 ∷ []; makeable = refl; ends = refl }
item-finish (suc zero) l = record { list = []; makeable = refl; ends = refl }
item-finish (suc (suc s)) l = absurd (omega arith)

empty-finish : Finishing table empty_auto
empty-finish zero l = record { list = []; makeable = refl; ends = refl }
empty-finish (suc s) l = absurd (omega arith)

pub live : AllFinishing table autos
live zero d l = blocks-finish
live (suc zero) d l = inlines-finish
live (suc (suc zero)) d l = blocks-finish
live (suc (suc (suc zero))) d l = inlines-finish
live (suc (suc (suc (suc zero)))) d l = items-finish
live (suc (suc (suc (suc (suc zero))))) d l = item-finish
live (suc (suc (suc (suc (suc (suc zero)))))) d l = empty-finish
live (suc (suc (suc (suc (suc (suc (suc zero))))))) d l = empty-finish
live (suc (suc (suc (suc (suc (suc (suc (suc k)))))))) d l = absurd (omega arith)

module _ (g : Global) where
  -- ---- the automata

  automata : AutosOf (nodes g) autos
  automata zero d l = is-blocks g
  automata (suc zero) d l = is-inlines g
  automata (suc (suc zero)) d l = is-blocks g
  automata (suc (suc (suc zero))) d l = is-inlines g
  automata (suc (suc (suc (suc zero)))) d l = is-items g
  automata (suc (suc (suc (suc (suc zero))))) d l = is-item g
  automata (suc (suc (suc (suc (suc (suc zero)))))) d l = is-empty
  automata (suc (suc (suc (suc (suc (suc (suc zero))))))) d l = is-empty
  automata (suc (suc (suc (suc (suc (suc (suc (suc k)))))))) d l = absurd (omega arith)

  narrow : (e : Expr) → width (expand e) < 4096 → (Many e → ⊥) → Is_fault e (inline_table (spec g)) TooWide → ⊥
  narrow e w m f = elim f.1 [
    | inl wide ↦ omega arith
    | inr many ↦ m many
  ]

  have : HasAutomata (spec g)
  have zero l = record { pure = λ m. wrong m.0; narrow = narrow (some_blocks g) (omega arith) (few-blocks g) }
  have (suc zero) l = record { pure = λ m. wrong m.1; narrow = narrow (any_inlines g) (omega arith) (few-inlines g) }
  have (suc (suc zero)) l = record { pure = λ m. wrong m.0; narrow = narrow (some_blocks g) (omega arith) (few-blocks g) }
  have (suc (suc (suc zero))) l = record { pure = λ m. wrong m.1; narrow = narrow (any_inlines g) (omega arith) (few-inlines g) }
  have (suc (suc (suc (suc zero)))) l = record { pure = λ m. wrong m.0; narrow = narrow (items g) (omega arith) (few-items g) }
  have (suc (suc (suc (suc (suc zero))))) l = record { pure = λ m. wrong m.0; narrow = narrow (item_content g) (omega arith) (few-item g) }
  have (suc (suc (suc (suc (suc (suc zero)))))) l = record { pure = λ m. wrong m.0; narrow = narrow Empty (omega arith) (few-empty) }
  have (suc (suc (suc (suc (suc (suc (suc zero))))))) l = record { pure = λ m. wrong m.0; narrow = narrow Empty (omega arith) (few-empty) }
  have (suc (suc (suc (suc (suc (suc (suc (suc k)))))))) l = absurd (omega arith)

  -- ---- the types that can be made

  closed : IsClosed (nodes g) table
  closed zero l m = refl
  closed (suc zero) l m = refl
  closed (suc (suc zero)) l m = refl
  closed (suc (suc (suc zero))) l m = refl
  closed (suc (suc (suc (suc zero)))) l m = refl
  closed (suc (suc (suc (suc (suc zero))))) l m = refl
  closed (suc (suc (suc (suc (suc (suc zero)))))) l m = wrong m.can
  closed (suc (suc (suc (suc (suc (suc (suc zero))))))) l m = wrong m.can
  closed (suc (suc (suc (suc (suc (suc (suc (suc k)))))))) l m = absurd (omega arith)

  paragraph : CanBeFilled (nodes g) 1
  paragraph = filled 1 [] (omega arith) refl refl no_type

  list_item : CanBeFilled (nodes g) 5
  list_item = filled 5 (1 ∷ []) (omega arith) refl refl (and_type 1 [] paragraph no_type)

  fills : HasFilled (nodes g) table
  fills zero h = filled 0 (1 ∷ []) (omega arith) refl refl (and_type 1 [] paragraph no_type)
  fills (suc zero) h = paragraph
  fills (suc (suc zero)) h = filled 2 (1 ∷ []) (omega arith) refl refl (and_type 1 [] paragraph no_type)
  fills (suc (suc (suc zero))) h = filled 3 [] (omega arith) refl refl no_type
  fills (suc (suc (suc (suc zero)))) h = filled 4 (5 ∷ []) (omega arith) refl refl (and_type 5 [] list_item no_type)
  fills (suc (suc (suc (suc (suc zero))))) h = list_item
  fills (suc (suc (suc (suc (suc (suc zero)))))) h = wrong h
  fills (suc (suc (suc (suc (suc (suc (suc zero))))))) h = wrong h
  fills (suc (suc (suc (suc (suc (suc (suc (suc k)))))))) h = wrong h

  generatable : IsGeneratable (nodes g) table
  generatable = generated (nodes g) table refl closed fills

  -- ---- the schema

  run : (e : Expr) (a : Auto) → IsAutoOf e a → edge_kinds (edges_at a.edges 0) ≡ starts e → Runs e a
  run e a h f = record { accepts = λ w. accepted-fits e a h w; first = f }

  pub runs : All_run (nodes g) autos
  unfolding starts
  runs = (
    run (some_blocks g) blocks_auto (is-blocks g) refl,
    (
      run (any_inlines g) inlines_auto (is-inlines g) refl,
      (
        run (some_blocks g) blocks_auto (is-blocks g) refl,
        (
          run (any_inlines g) inlines_auto (is-inlines g) refl,
          (
            run (items g) items_auto (is-items g) refl,
            (
              run (item_content g) item_auto (is-item g) refl,
              (
                run Empty empty_auto is-empty refl,
                (run Empty empty_auto is-empty refl, tt),
              ),
            ),
          ),
        ),
      ),
    ),
  )

  named : IsNamed (spec g)
  named = record { types = refl; differ = refl; marks = refl }

  abbrev pub schema : Schema
  schema = record {
    spec = spec g;
    node_names = names_of_nodes (spec g);
    mark_names = names_of_marks (spec g);
    top = 0;
    text = 7;
    autos = autos;
    allowed = map (allowed_row (spec g)) (nodes g);
    rules = exclude_table (spec g);
    generatable = table;
    may_wrap = map can_wrap (nodes g);
    nodes_named = refl;
    marks_named = refl;
    names_differ = refl;
    top_named = refl;
    text_named = refl;
    text_plain = refl;
    full = refl;
    runs = runs;
    allows = refl;
    excludes = refl;
    makes = refl;
    never_stuck = λ k d s l m n. n (live k d l s m);
    wraps = refl;
    versioned = refl;
    node_defaults = refl;
    mark_defaults = refl;
  }

  pub built : IsBuilt schema
  built = record { named = named; have = have; automata = automata; generatable = generatable; live = live }
