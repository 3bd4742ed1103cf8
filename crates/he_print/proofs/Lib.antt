mod RepeatLaws
mod StringLaws
