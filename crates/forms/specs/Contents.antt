-- The content of a form, as a plain value.
use Rattle.std.specs.Prelude.{ℕ, List}
use Rattle.forms.specs.declared.values.Policy.{Policy}
use Rattle.forms.specs.declared.values.Share.{Share}
use Rattle.forms.specs.declared.values.Submission.{Submission}
use Rattle.patterns.specs.declared.setting.VertexSetting.{VertexSetting}
use Rattle.patterns.specs.declared.setting.EdgeSetting.{EdgeSetting}

pub data Content : Type 0 where
  controller : Policy → Content
  share : Share → Content
  lane : ℕ → ℕ → List VertexSetting → List EdgeSetting → Content
  first : ℕ → Content
  begin : Content
  submit : Submission → Content
  ticks : ℕ → Content
