mod FilesOf
mod InTurn
mod Lists
mod PageParts
