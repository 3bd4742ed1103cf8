mod EscapedLaws
mod TextLaws
