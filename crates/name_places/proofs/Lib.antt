mod SpellingLaws
mod PlaceLaws
