mod CharacterLaws
mod LineLaws
mod RowLaws
mod WriteLaws
