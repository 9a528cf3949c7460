-- What is written into a page, which keeps its buffer.
use Rattle.std.specs.Prelude.{◌≡◌, List}
use Rattle.store.specs.declared.page.Page.{Page}
use Rattle.store.specs.Pages as pages
use Rattle.store.specs.Pages.{page, wrote_all}

-- what its buffer holds, and how many items are written
abbrev pub page_of : {X : Type 0} → Page X → pages.Page X
page_of p = page p.buffer.now p.written

-- a page before and after these items are written, with the same buffer
abbrev pub Wrote : {X : Type 0} → List X → Page X → Page X → Type 0
Wrote xs p q = (q.buffer.ghost_name ≡ p.buffer.ghost_name) × (page_of q ≡ wrote_all xs (page_of p))
