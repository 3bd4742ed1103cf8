-- The drawing that a line asks for.
use Rattle.std.proofs.Common.{◌≡◌, ◌∙◌, ℕ, Bool, List, Option, Some, None, Result, Ok, Err, IfOk, codes, is_some, option_map, refl, subst, ap}
use Rattle.std.specs.Borrow.{Bor}
use Rattle.clap.specs.Matches.{first_value}
use Rattle.clap.specs.declared.parser.matches.Found.{Found}
use Rattle.he_request.specs.Requests.{AsksDrawing, IsDrawn, page_of}
use Rattle.he_options.specs.Texts.{AsksTexts}
use Rattle.he_options.specs.declared.texts.Content.{Content}
use Rattle.he_options.specs.declared.texts.Task.{Task}
use Rattle.he_options.specs.declared.texts.Task.TheVariants.{Write}
use Rattle.he_options.specs.declared.texts.Texts.{Texts}
use Rattle.he_request.specs.declared.terminal.Terminal.{Terminal}

some_now : (text : Option (Bor (List ℕ))) → is_some text ≡ is_some (option_map (λ t. t.now) text)
some_now None = refl
some_now (Some text) = refl

-- the texts of a drawing are those that the line asks for
draws : {D : Type 0} (gives : List ℕ → Result ℕ D → Type 0) (found : Found) (terminal : Terminal) (html page : Option (Bor (List ℕ))) (content : Content) (task : Task) (is_page : Bool) (texts : Texts)
    → option_map (λ t. t.now) html ≡ first_value found (codes "html") → option_map (λ t. t.now) page ≡ page_of (option_map (λ t. t.now) html) → is_page ≡ is_some html
    → IsDrawn gives found is_page terminal content → task ≡ Write content 1 → AsksTexts found task (option_map (λ t. t.now) page) texts
    → AsksDrawing gives found terminal texts
draws gives found terminal html page content task is_page texts is_html is_path paged drawn is_task asks = (
  content,
  subst (λ (b : Bool). IsDrawn gives found b terminal content) (paged ∙ some_now html ∙ ap is_some is_html) drawn,
  subst (λ (t : Task). AsksTexts found t (page_of (first_value found (codes "html"))) texts) is_task
      (subst (λ (p : Option (List ℕ)). AsksTexts found task p texts) (is_path ∙ ap page_of is_html) asks),
)

pub all_drawn : {D F : Type 0} (gives : List ℕ → Result ℕ D → Type 0) (found : Found) (terminal : Terminal) (html page : Option (Bor (List ℕ))) (content : Content) (task : Task) (is_page : Bool) (result : Result Texts F)
    → option_map (λ t. t.now) html ≡ first_value found (codes "html") → option_map (λ t. t.now) page ≡ page_of (option_map (λ t. t.now) html) → is_page ≡ is_some html
    → IsDrawn gives found is_page terminal content → task ≡ Write content 1 → IfOk result (AsksTexts found task (option_map (λ t. t.now) page))
    → IfOk result (AsksDrawing gives found terminal)
all_drawn gives found terminal html page content task is_page (Ok texts) is_html is_path paged drawn is_task asks =
    draws gives found terminal html page content task is_page texts is_html is_path paged drawn is_task asks
all_drawn gives found terminal html page content task is_page (Err refusal) is_html is_path paged drawn is_task asks = tt
