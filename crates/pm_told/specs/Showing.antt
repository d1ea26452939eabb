-- What a client is told that took entries of the log.
use Rattle.std.specs.Prelude.{ℕ, zero, suc, ◌+◌, ◌==◌, Bool, false, List, [], ◌∷◌, ◌++◌, length, map, reverse, drop, codes, decimal, Option, Some, None, if◌then◌else◌}
use Rattle.pm_tokens.specs.Tokens.{Doc as Document}
use Rattle.pm_schema.specs.declared.schema.Schema.{Schema}
use Rattle.pm_schema.specs.declared.spec.SchemaSpec.{SchemaSpec}
use Rattle.pm_meaning.specs.Steps.{Step}
use Rattle.pm_meaning.specs.declared.reason.Reason.{Reason}
use Rattle.pm_apply.specs.Changes.{meaning}
use Rattle.pm_change.specs.Changes.{fold}
use Rattle.pm_authority.specs.declared.named.Named.{Named}
use Rattle.pm_authority.specs.Runs.{changes_of}
use Rattle.pm_client.specs.declared.client.Client.{Client}
use Rattle.pm_client.specs.declared.cursors.Cursor.{Cursor}
use Rattle.pm_client.specs.Rebases.{Rebasing}
use Rattle.pm_client.specs.Cursors.{moved_over}
use Rattle.pm_remote.specs.Backs.{joined, sizes_of, undos}
use Rattle.pm_told.specs.Texts.{numbers_text, pairs_text, changes_text}

abbrev pub DocClient : Type 0
DocClient = Client Step Schema Document Reason

abbrev pub DocRebasing : Type 0
DocRebasing = Rebasing Step Schema Document Reason

-- the positions of cursors
abbrev pub positions_of : List Cursor → List ℕ
positions_of cs = map (λ (c : Cursor). c.pos) cs

-- so many serials from this one on
abbrev pub serials_on : ℕ → ℕ → List ℕ
serials_on first zero = []
serials_on first (suc count) = first ∷ serials_on (first + 1) count

abbrev pub sum : List ℕ → ℕ
sum [] = 0
sum (n ∷ ns) = n + sum ns

-- The steps that lead a view from its document to the client's new one: the first `back` of them take the pending ones back, the
-- last one's first; others' follow, and then the pending ones that were kept, carried. `pairs`: the places of a step back and of the
-- carried step that is its mirror.
pub record View : Type 0 where
  pub back : ℕ
  pub steps : List Step
  pub pairs : List (ℕ × ℕ)

-- a pending step is taken back by so many steps, the first of which stands at the one place, and its carried form stands at the other
abbrev pub pair_of : ℕ → ℕ → ℕ → List (ℕ × ℕ)
pair_of size at place = if size == 1 then (at, place) ∷ [] else []

-- the first of those kept comes of this pending step
abbrev pub is_next : List (Named Step) → Named Step → Bool
is_next [] p = false
is_next (k ∷ ks) p = k.name.serial == p.name.serial

-- For each of these pending steps, which are taken back by so many steps each, that was kept and is taken back by one step: its
-- pair. What takes back the last one stands first, and the carried form of the first one that was kept stands at `place`.
abbrev pub pairs_of : List (Named Step) → List ℕ → List (Named Step) → ℕ → List (ℕ × ℕ)
pairs_of [] sizes kept place = []
pairs_of (p ∷ ps) [] kept place = []
pairs_of (p ∷ ps) (z ∷ zs) [] place = []
pairs_of (p ∷ ps) (z ∷ zs) (k ∷ ks) place =
    if k.name.serial == p.name.serial
    then pair_of z (sum zs) place ++ pairs_of ps zs ks (place + 1)
    else pairs_of ps zs (k ∷ ks) place

-- What is shown where the pending steps later on, each of which these steps take back, are carried so over others' steps.
abbrev pub view_of : List (Named Step) → List (List Step) → List Step → List (Named Step) → View
view_of later undone foreign kept =
    let back = joined (reverse undone) in
    record {
      back = length back;
      steps = back ++ foreign ++ changes_of kept;
      pairs = pairs_of later (sizes_of undone) kept (length back + length foreign);
    }

-- nothing is shown where the steps back do not all apply
abbrev pub where_applies : Option Document → View → Option View
where_applies None view = None
where_applies (Some d) view = Some view

-- What is shown to a client whose first `own` pending steps lead to the document `middle`, and stand in the log with these of
-- others after them. The later pending steps were carried over these so.
abbrev pub shown : Schema → DocClient → ℕ → Document → List Step → DocRebasing → Option View
shown s c own middle foreign r =
    let undone = undos meaning s middle (changes_of (drop own c.pending)) in
    where_applies (fold meaning s c.doc (joined (reverse undone))) (view_of (drop own c.pending) undone foreign r.kept)

-- nothing is taken back, and nothing shown
abbrev pub empty_view : View
empty_view = record { back = 0; steps = []; pairs = [] }

abbrev pub back_of : Option View → ℕ
back_of None = 0
back_of (Some view) = view.back

module _ (s : SchemaSpec) where
  abbrev pub shown_text : Option View → List ℕ
  shown_text None = codes "null,\"steps\":null"
  shown_text (Some view) = pairs_text view.pairs ++ (codes ",\"steps\":" ++ changes_text s view.steps)

  -- So many pending steps are confirmed; the cursors stand at these places; the steps of these serials are lost; so many steps are
  -- others'; this is shown, and the version is this.
  abbrev pub taken_text : Option View → ℕ → List ℕ → List ℕ → ℕ → ℕ → List ℕ
  taken_text view confirmed cursors dropped foreign version =
      codes "{\"back\":" ++ (decimal (back_of view) ++ (codes ",\"confirmed\":" ++ (decimal confirmed
      ++ (codes ",\"cursors\":" ++ (numbers_text cursors ++ (codes ",\"dropped\":" ++ (numbers_text dropped
      ++ (codes ",\"foreign\":" ++ (decimal foreign ++ (codes ",\"pairs\":" ++ (shown_text view
      ++ (codes ",\"version\":" ++ (decimal version ++ codes "}\n")))))))))))))

  -- the entries are the client's own first pending steps alone, so many
  abbrev pub own_text : DocClient → ℕ → ℕ → List ℕ
  own_text c own version = taken_text (Some empty_view) own (positions_of c.cursors) [] 0 version

-- the entries are the client's first pending steps, so many, and these of others
abbrev pub brought_text : Schema → DocClient → ℕ → Document → List Step → DocRebasing → ℕ → List ℕ
brought_text s c own middle foreign r version =
    taken_text s.spec (shown s c own middle foreign r) own (positions_of (moved_over r.maps c.cursors)) r.dropped (length foreign) version
