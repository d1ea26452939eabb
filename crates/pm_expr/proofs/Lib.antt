mod ReaderLaws
mod SeenLaws
mod ReadingLaws
mod Scans
mod Joins
