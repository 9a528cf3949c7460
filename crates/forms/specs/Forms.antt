-- The forms of a line.
use Rattle.std.specs.Prelude.{ℕ, Bool, true, false, cond, List, [], ◌∷◌, Some, None, codes, Option}
use Rattle.std.specs.Str.{bytes_eq}
use Rattle.forms.specs.declared.values.Policy.{Policy}
use Rattle.forms.specs.declared.values.Policy.TheVariants.{FirstCome, Turns}
use Rattle.forms.specs.declared.values.Share.{Share}
use Rattle.forms.specs.declared.values.Submission.{Submission}
use Rattle.forms.specs.Signs.{Sign, Parsed, parsed}
use Rattle.forms.specs.declared.values.Form.{Form}
use Rattle.forms.specs.declared.values.Form.TheVariants as form
use Rattle.forms.specs.Parts.{then, open_in, close_in, number_in, word_in, kind_in, field_in}
use Rattle.forms.specs.Contents.{Content}
use Rattle.forms.specs.Contents as contents
use Rattle.forms.specs.Lanes.{lane_content, lane_in}

abbrev pub policy_of : List ℕ → Option Policy
policy_of w = cond (bytes_eq w (codes "come")) (Some FirstCome) (cond (bytes_eq w (codes "turns")) (Some Turns) None)

abbrev pub policy_in : List Sign → Parsed Policy
policy_in ts = then (word_in ts) (λ w us. parsed (policy_of w) us)

abbrev pub share_in : List Sign → Parsed Share
share_in ts =
    then (number_in ts) (λ d us.
    then (field_in (codes "share") us) (λ n vs. Some (record { domain = d; slots = n }, vs)))

abbrev pub submission_in : List Sign → Parsed Submission
submission_in ts =
    then (number_in ts) (λ d us.
    then (field_in (codes "bank") us) (λ b vs.
    then (kind_in vs) (λ k ws.
    then (field_in (codes "row") ws) (λ n xs. Some (record { domain = d; bank = b; kind = k; row = n }, xs)))))

abbrev pub content : Form → Content
content (form.Controller p) = contents.controller p
content (form.Open s) = contents.share s
content (form.Lane l) = lane_content l
content (form.First n) = contents.first n
content form.Begin = contents.begin
content (form.Submit s) = contents.submit s
content (form.Ticks n) = contents.ticks n

-- what is read, under its form's name
abbrev pub as_form : {A : Type 0} → (A → Content) → Parsed A → Parsed Content
as_form f o = then o (λ x us. Some (f x, us))

-- what stands behind the word of a form that holds no list
abbrev pub body_in : List ℕ → List Sign → Parsed Content
body_in w ts =
    cond (bytes_eq w (codes "controller")) (as_form contents.controller (policy_in ts))
    (cond (bytes_eq w (codes "open")) (as_form contents.share (share_in ts))
    (cond (bytes_eq w (codes "first")) (as_form contents.first (number_in ts))
    (cond (bytes_eq w (codes "begin")) (Some (contents.begin, ts))
    (cond (bytes_eq w (codes "submit")) (as_form contents.submit (submission_in ts))
    (cond (bytes_eq w (codes "ticks")) (as_form contents.ticks (number_in ts)) None)))))

abbrev pub closed_form_in : List ℕ → List Sign → Parsed Content
closed_form_in w ts = then (body_in w ts) (λ f us. then (close_in us) (λ _ vs. Some (f, vs)))

-- the word that a form begins with
abbrev pub heading_in : List Sign → Parsed (List ℕ)
heading_in ts = then (open_in ts) (λ _ us. word_in us)

abbrev pub worded_form_in : List ℕ → List Sign → Parsed Content
worded_form_in w ts = cond (bytes_eq w (codes "lane")) (lane_in ts) (closed_form_in w ts)

abbrev pub form_in : List Sign → Parsed Content
form_in ts = then (heading_in ts) worded_form_in

-- nothing stands behind it
abbrev pub alone : Content → List Sign → Option Content
alone f [] = Some f
alone f (t ∷ ts) = None

abbrev pub all_of : Parsed Content → Option Content
all_of None = None
all_of (Some p) = alone p.0 p.1

-- the form that all signs of a line make
abbrev pub form_of : List Sign → Option Content
form_of ts = all_of (form_in ts)

abbrev pub is_controller : Content → Bool
is_controller (contents.controller p) = true
is_controller (contents.share s) = false
is_controller (contents.lane d r vs es) = false
is_controller (contents.first n) = false
is_controller contents.begin = false
is_controller (contents.submit s) = false
is_controller (contents.ticks n) = false
