-- What a stack of open nodes is seen as, when a frame comes, goes or grows.
use Rattle.std.specs.Prelude.{◌≡◌, ℕ, ◌+◌, ◌≤◌, List, [], ◌∷◌, ◌++◌, length, take, set, get_or}
use Rattle.std.proofs.Common.{refl, ap, sym, ◌∙◌, subst, arith, append_assoc, length-append}
use Rattle.std.proofs.lemmas.List.{append-nil}
use Rattle.pm_tokens.specs.Tokens.{Token, Open, Close}
use Rattle.pm_tokens.specs.Scan.{unclosed, Balanced}
use Rattle.pm_build.specs.Frames.{frames_tokens, AllWhole, Whole}
use Rattle.pm_build.specs.declared.builder.Frame.{Frame}
use Rattle.pm_tokens.proofs.ScanLaws.{unclosed-append}
use Rattle.pm_tokens.proofs.BalanceLaws.{unclosed-balanced}
use Rattle.pm_node.proofs.TreeLaws.{split_last, set_last}

-- the kinds of the open nodes, the innermost first
abbrev pub kinds_up : List Frame → List ℕ → List ℕ
kinds_up [] s = s
kinds_up (f ∷ fs) s = kinds_up fs (f.kind ∷ s)

pub kinds_up-push : (fs : List Frame) (f : Frame) (s : List ℕ) → kinds_up (fs ++ (f ∷ [])) s ≡ f.kind ∷ kinds_up fs s
kinds_up-push [] f s = refl
kinds_up-push (g ∷ fs) f s = kinds_up-push fs f (g.kind ∷ s)

pub length-kinds_up : (fs : List Frame) (s : List ℕ) → length (kinds_up fs s) ≡ length fs + length s
length-kinds_up [] s = omega arith
length-kinds_up (g ∷ fs) s = omega (arith, length-kinds_up fs (g.kind ∷ s))

unclosed-frames : (fs : List Frame) (s : List ℕ) → AllWhole fs → unclosed s (frames_tokens fs) ≡ kinds_up fs s
unclosed-frames [] s w = refl
unclosed-frames (f ∷ fs) s w =
    unclosed-append (f.kind ∷ s) f.content (frames_tokens fs) ∙ (ap (λ z. unclosed z (frames_tokens fs)) (unclosed-balanced (f.kind ∷ s) w.0) ∙ unclosed-frames fs (f.kind ∷ s) w.1)

pub unclosed-fed : (base : List Token) (fs : List Frame) → Whole base fs → unclosed [] (base ++ frames_tokens fs) ≡ kinds_up fs []
unclosed-fed base fs w =
    unclosed-append [] base (frames_tokens fs) ∙ (ap (λ z. unclosed z (frames_tokens fs)) (unclosed-balanced [] w.at_base) ∙ unclosed-frames fs [] w.at_frames)

pub frames-push : (fs : List Frame) (f : Frame) → frames_tokens (fs ++ (f ∷ [])) ≡ frames_tokens fs ++ (Open f.kind f.attrs f.marks ∷ f.content)
frames-push [] f = ap (λ z. Open f.kind f.attrs f.marks ∷ z) (append-nil f.content)
frames-push (g ∷ fs) f =
    ap (λ z. Open g.kind g.attrs g.marks ∷ (g.content ++ z)) (frames-push fs f) ∙ ap (λ z. Open g.kind g.attrs g.marks ∷ z) (sym (append_assoc g.content (frames_tokens fs) (Open f.kind f.attrs f.marks ∷ f.content)))

pub fed-push : (base : List Token) (fs : List Frame) (f : Frame) → base ++ frames_tokens (fs ++ (f ∷ [])) ≡ (base ++ frames_tokens fs) ++ (Open f.kind f.attrs f.marks ∷ f.content)
fed-push base fs f = ap (λ z. base ++ z) (frames-push fs f) ∙ sym (append_assoc base (frames_tokens fs) (Open f.kind f.attrs f.marks ∷ f.content))

pub whole-push : (fs : List Frame) (f : Frame) → AllWhole fs → Balanced f.content → AllWhole (fs ++ (f ∷ []))
whole-push [] f w b = (b, tt)
whole-push (g ∷ fs) f w b = (w.0, whole-push fs f w.1 b)

pub whole-front : (fs : List Frame) (f : Frame) → AllWhole (fs ++ (f ∷ [])) → AllWhole fs × Balanced f.content
whole-front [] f w = (tt, w.0)
whole-front (g ∷ fs) f w = let h = whole-front fs f w.1 in ((w.0, h.0), h.1)

-- the innermost frame's content grows by tokens
pub fed-last : (base : List Token) (fs : List Frame) (i : ℕ) (f g : Frame) (ts : List Token) → i + 1 ≡ length fs → f ≡ get_or fs i f → Open g.kind g.attrs g.marks ≡ Open f.kind f.attrs f.marks → g.content ≡ f.content ++ ts → base ++ frames_tokens (set fs i g) ≡ (base ++ frames_tokens fs) ++ ts
fed-last base fs i f g ts e r h s =
    let split : fs ≡ take i fs ++ (f ∷ []) = split_last fs f i e ∙ ap (λ z. take i fs ++ (z ∷ [])) (sym r) in
    let front = base ++ frames_tokens (take i fs) in
    ap (λ z. base ++ frames_tokens z) (set_last fs i g e) ∙ (fed-push base (take i fs) g ∙ (ap (λ z. front ++ (z ∷ g.content)) h ∙ (ap (λ z. front ++ (Open f.kind f.attrs f.marks ∷ z)) s ∙ (sym (append_assoc front (Open f.kind f.attrs f.marks ∷ f.content) ts) ∙ ap (λ z. z ++ ts) (sym (fed-push base (take i fs) f) ∙ ap (λ z. base ++ frames_tokens z) (sym split))))))

pub whole-last : (base : List Token) (fs : List Frame) (i : ℕ) (f g : Frame) → i + 1 ≡ length fs → f ≡ get_or fs i f → Balanced g.content → Whole base fs → Whole base (set fs i g)
whole-last base fs i f g e r b w =
    let split : fs ≡ take i fs ++ (f ∷ []) = split_last fs f i e ∙ ap (λ z. take i fs ++ (z ∷ [])) (sym r) in
    record { at_base = w.at_base; at_frames = rw (set_last fs i g e) (whole-push (take i fs) g (whole-front (take i fs) f (subst AllWhole split w.at_frames)).0 b) }

pub kinds_last : (fs : List Frame) (i : ℕ) (f : Frame) → i + 1 ≡ length fs → f ≡ get_or fs i f → kinds_up fs [] ≡ f.kind ∷ kinds_up (take i fs) []
kinds_last fs i f e r =
    let split : fs ≡ take i fs ++ (f ∷ []) = split_last fs f i e ∙ ap (λ z. take i fs ++ (z ∷ [])) (sym r) in
    ap (λ z. kinds_up z []) split ∙ kinds_up-push (take i fs) f []

pub within-last : (base : List Token) (fs : List Frame) (i : ℕ) (f : Frame) → i + 1 ≡ length fs → f ≡ get_or fs i f → length f.content ≤ length (base ++ frames_tokens fs)
within-last base fs i f e r =
    let split : fs ≡ take i fs ++ (f ∷ []) = split_last fs f i e ∙ ap (λ z. take i fs ++ (z ∷ [])) (sym r) in
    let a = ap (λ z. length (base ++ frames_tokens z)) split in
    let b = ap length (fed-push base (take i fs) f) in
    omega (arith, a, b, length-append (base ++ frames_tokens (take i fs)) (Open f.kind f.attrs f.marks ∷ f.content))

-- the innermost frame becomes a node of the one around it
pub fed-close : (base : List Token) (fs front : List Frame) (f : Frame) (ts : List Token) → fs ≡ front ++ (f ∷ []) → ts ≡ Open f.kind f.attrs f.marks ∷ (f.content ++ (Close ∷ [])) → (base ++ frames_tokens front) ++ ts ≡ (base ++ frames_tokens fs) ++ (Close ∷ [])
fed-close base fs front f ts s t =
    let x = base ++ frames_tokens front in
    ap (λ z. x ++ z) t ∙ (sym (append_assoc x (Open f.kind f.attrs f.marks ∷ f.content) (Close ∷ [])) ∙ ap (λ z. z ++ (Close ∷ [])) (sym (fed-push base front f) ∙ ap (λ z. base ++ frames_tokens z) (sym s)))
